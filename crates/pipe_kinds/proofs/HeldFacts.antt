-- Which running aggregates keep values, and what serves as well as a value to the others.
use Rattle.std.specs.Prelude.{Vec}
use Rattle.std.specs.declared.alloc.Global.{Global}
use Rattle.std.proofs.Common.{◌≡◌, ℕ, zero, suc, false, List, [], ◌∷◌, map, refl}
use Rattle.pipe_columns.specs.declared.any_value.AnyValue.{AnyValue}
use Rattle.pipe_columns.specs.declared.any_value.AnyValue.TheVariants as av
use Rattle.pipe_columns.specs.declared.data_type.DataType.{DataType}
use Rattle.pipe_columns.specs.declared.place.Place.{Place}
use Rattle.pipe_running.specs.declared.function.AggregateFunction.{AggregateFunction}
use Rattle.pipe_running.specs.declared.function.AggregateFunction.TheVariants as function
use Rattle.pipe_running.specs.Lent.{keeps_text}
use Rattle.pipe_running.specs.States.{after_value, takes}
use Rattle.pipe_kinds.specs.declared.count_states.CountStates.{CountStates}
use Rattle.pipe_kinds.specs.declared.count_states.CountStates.TheVariants as counts
use Rattle.pipe_kinds.specs.declared.extreme_states.ExtremeNumbers.{ExtremeNumbers}
use Rattle.pipe_kinds.specs.declared.extreme_states.ExtremeNumbers.TheVariants as extremes
use Rattle.pipe_kinds.specs.declared.other_states.OtherStates.{OtherStates}
use Rattle.pipe_kinds.specs.declared.other_states.OtherStates.TheVariants as others
use Rattle.pipe_kinds.specs.declared.sum_states.SumStates.{SumStates}
use Rattle.pipe_kinds.specs.declared.sum_states.SumStates.TheVariants as sums
use Rattle.pipe_kinds.specs.declared.kind.KindStates.{KindStates}
use Rattle.pipe_kinds.specs.declared.kind.KindStates.TheVariants as kind
use Rattle.pipe_kinds.specs.Columns.{state_at}
use Rattle.pipe_kinds.specs.CountStates.{counts_of}
use Rattle.pipe_kinds.specs.ExtremeStates.{numbers_of}
use Rattle.pipe_kinds.specs.Keeping.{keeps_value, plain_value}
use Rattle.pipe_kinds.specs.Kinds.{is_held, states_of}
use Rattle.pipe_kinds.specs.OtherStates.{hold_values, others_of}
use Rattle.pipe_kinds.specs.SumStates.{sums_of}

-- where none of a list is one that keeps values, none at an index is
module _ {S : Type 0} (function : S → AggregateFunction) (plain : (s : S) → keeps_value (function s) ≡ false) where
  plain-at : (xs : List S) (i : ℕ) → keeps_value (state_at (map function xs) i) ≡ false
  plain-at [] i = refl
  plain-at (x ∷ xs) zero = plain x
  plain-at (x ∷ xs) (suc i) = plain-at xs i

-- no count keeps a value
pub plain-count : (k : CountStates) (i : ℕ) → keeps_value (state_at (counts_of k) i) ≡ false
plain-count (counts.Count v) i = plain-at function.Count (λ s. refl) v.items i
plain-count (counts.Len v) i = plain-at function.Len (λ s. refl) v.items i

-- nor does a sum
pub plain-sum : (k : SumStates) (i : ℕ) → keeps_value (state_at (sums_of k) i) ≡ false
plain-sum (sums.U32 v) i = plain-at function.SumU32 (λ s. refl) v.items i
plain-sum (sums.U64 v) i = plain-at function.SumU64 (λ s. refl) v.items i
plain-sum (sums.I32 v) i = plain-at function.SumI32 (λ s. refl) v.items i
plain-sum (sums.I64 v) i = plain-at function.SumI64 (λ s. refl) v.items i

-- nor a minimum or a maximum
pub plain-extreme : (k : ExtremeNumbers) (i : ℕ) → keeps_value (state_at (numbers_of k) i) ≡ false
plain-extreme (extremes.U8 v) i = plain-at function.MinMaxU8 (λ s. refl) v.items i
plain-extreme (extremes.U16 v) i = plain-at function.MinMaxU16 (λ s. refl) v.items i
plain-extreme (extremes.U32 v) i = plain-at function.MinMaxU32 (λ s. refl) v.items i
plain-extreme (extremes.U64 v) i = plain-at function.MinMaxU64 (λ s. refl) v.items i
plain-extreme (extremes.I8 v) i = plain-at function.MinMaxI8 (λ s. refl) v.items i
plain-extreme (extremes.I16 v) i = plain-at function.MinMaxI16 (λ s. refl) v.items i
plain-extreme (extremes.I32 v) i = plain-at function.MinMaxI32 (λ s. refl) v.items i
plain-extreme (extremes.I64 v) i = plain-at function.MinMaxI64 (λ s. refl) v.items i

-- of the others those that hold none
pub plain-other : (k : OtherStates) (i : ℕ) → hold_values k ≡ false → keeps_value (state_at (others_of k) i) ≡ false
plain-other (others.Mean v) i e = plain-at function.Mean (λ s. refl) v.items i
plain-other (others.Null t v) i e = plain-at function.Null (λ s. refl) v.items i
plain-other (others.First t v) i e = cc e
plain-other (others.Last t v) i e = cc e

-- states that aren't held keep no value
pub plain-kind : (k : KindStates) (i : ℕ) → is_held k ≡ false → keeps_value (state_at (states_of k) i) ≡ false
plain-kind (kind.Counts v) i e = plain-count v i
plain-kind (kind.Sums v) i e = plain-sum v i
plain-kind (kind.Extremes v) i e = plain-extreme v.numbers i
plain-kind (kind.Others v) i e = plain-other v i e

-- one that keeps no value keeps no text
pub no-text : (p : Place) (v : AnyValue) (f : AggregateFunction) → keeps_value f ≡ false → keeps_text p v f ≡ false
no-text p v (function.First a) e = cc
no-text p v (function.Last a) e = cc
no-text p v f e = refl

-- ---- false in the place of a text

-- it takes what serves as well
pub plain-takes : (f : AggregateFunction) (v : AnyValue) → keeps_value f ≡ false → takes f (plain_value v) ≡ takes f v
plain-takes f av.Null e = refl
plain-takes f (av.Boolean b) e = refl
plain-takes f (av.Int n) e = refl
plain-takes (function.First a) (av.Text s) e = refl
plain-takes (function.Last a) (av.Text s) e = refl
plain-takes (function.Count a) (av.Text s) e = refl
plain-takes (function.Len a) (av.Text s) e = refl
plain-takes (function.SumU32 a) (av.Text s) e = refl
plain-takes (function.SumU64 a) (av.Text s) e = refl
plain-takes (function.SumI32 a) (av.Text s) e = refl
plain-takes (function.SumI64 a) (av.Text s) e = refl
plain-takes (function.Mean a) (av.Text s) e = refl
plain-takes (function.Null a) (av.Text s) e = refl
plain-takes (function.MinMaxU8 a) (av.Text s) e = refl
plain-takes (function.MinMaxU16 a) (av.Text s) e = refl
plain-takes (function.MinMaxU32 a) (av.Text s) e = refl
plain-takes (function.MinMaxU64 a) (av.Text s) e = refl
plain-takes (function.MinMaxI8 a) (av.Text s) e = refl
plain-takes (function.MinMaxI16 a) (av.Text s) e = refl
plain-takes (function.MinMaxI32 a) (av.Text s) e = refl
plain-takes (function.MinMaxI64 a) (av.Text s) e = refl

-- and is the same with it
pub plain-after : (p : Place) (v : AnyValue) (f : AggregateFunction) → keeps_value f ≡ false → after_value p (plain_value v) f ≡ after_value p v f
plain-after p av.Null f e = refl
plain-after p (av.Boolean b) f e = refl
plain-after p (av.Int n) f e = refl
plain-after p (av.Text s) (function.First a) e = cc e
plain-after p (av.Text s) (function.Last a) e = cc e
plain-after p (av.Text s) (function.Count a) e = refl
plain-after p (av.Text s) (function.Len a) e = refl
plain-after p (av.Text s) (function.SumU32 a) e = refl
plain-after p (av.Text s) (function.SumU64 a) e = refl
plain-after p (av.Text s) (function.SumI32 a) e = refl
plain-after p (av.Text s) (function.SumI64 a) e = refl
plain-after p (av.Text s) (function.Mean a) e = refl
plain-after p (av.Text s) (function.Null a) e = refl
plain-after p (av.Text s) (function.MinMaxU8 a) e = refl
plain-after p (av.Text s) (function.MinMaxU16 a) e = refl
plain-after p (av.Text s) (function.MinMaxU32 a) e = refl
plain-after p (av.Text s) (function.MinMaxU64 a) e = refl
plain-after p (av.Text s) (function.MinMaxI8 a) e = refl
plain-after p (av.Text s) (function.MinMaxI16 a) e = refl
plain-after p (av.Text s) (function.MinMaxI32 a) e = refl
plain-after p (av.Text s) (function.MinMaxI64 a) e = refl

-- what is neither a first nor a last holds none
pub not-held : (k : OtherStates) → ((t : DataType) (v : Vec AggregateFunction Global) → k ≡ others.First t v → ⊥) → ((t : DataType) (v : Vec AggregateFunction Global) → k ≡ others.Last t v → ⊥) → hold_values k ≡ false
not-held (others.First t v) h l = absurd (h t v refl)
not-held (others.Last t v) h l = absurd (l t v refl)
not-held k h l = refl

-- nor does what is none of the others
pub not-other : (k : KindStates) → ((v : OtherStates) → k ≡ kind.Others v → ⊥) → is_held k ≡ false
not-other (kind.Others v) h = absurd (h v refl)
not-other k h = refl
