-- The inputs of a row are appended one by one.
use Rattle.std.proofs.Common.{◌≡◌, ◌∙◌, ◌<◌, ◌+◌, ◌++◌, ℕ, List, length, arith, take, drop, get_or, ap, sym, subst, refl, true, Option, unwrap_or, append_assoc, take-append-drop}
use Rattle.std.specs.Prelude.{All}
use Rattle.std.proofs.Math.Seq.{take-length}
use Rattle.std.proofs.lemmas.Grind.{common_steps}
use Rattle.std.proofs.lemmas.List.{take_at}
use Rattle.std.proofs.lemmas.List.Elements.{All-more, All-nil}
use Rattle.std.proofs.lemmas.Option.{slice_get-get_or}
use Rattle.pipe_columns.specs.declared.any_value.AnyValue.{AnyValue}
use Rattle.pipe_columns.specs.declared.any_value.AnyValue.TheVariants as av
use Rattle.pipe_columns.specs.declared.data_type.DataType.{DataType}
use Rattle.pipe_columns.specs.AnyValue.{fits, HasUtf8}
use Rattle.pipe_columns.specs.Frame.{value_at}
use Rattle.pipe_columns.specs.Key.{code, value_code}
use Rattle.pipe_spill.specs.KeyTypes.{AreOfTypes, IsTuple, IsValue}
use Rattle.pipe_spill.proofs.Tuples.{as_long, code_at, fits_at}

-- the first i values stand behind what was there, and the others have their code
pub record AreAppended (types : List DataType) (values : List AnyValue) (old new : List ℕ) (i : ℕ) : Type 0 where
  pub utf8 : All HasUtf8 (take i values)
  pub bytes : new ++ code (drop i types) (drop i values) ≡ old ++ code types values
  pub front : take (length old) new ≡ old

-- what bytes begin with stays where others are put behind
pub front_more : (old new x : List ℕ) → take (length old) new ≡ old → take (length old) (new ++ x) ≡ old
front_more old new x h =
    let behind = drop (length old) new in
    let whole : new ≡ old ++ behind = sym (take-append-drop (length old) new) ∙ ap (λ (l : List ℕ). l ++ behind) h in
    ap (λ (l : List ℕ). take (length old) (l ++ x)) whole
    ∙ ap (take (length old)) (append_assoc old behind x)
    ∙ take_at old (behind ++ x) (length old) refl

-- bytes begin with themselves
pub front_whole : (old : List ℕ) → take (length old) old ≡ old
front_whole old = take-length old

-- before the first value
pub none_yet : (types : List DataType) (values : List AnyValue) (old : List ℕ) → AreAppended types values old old 0
none_yet types values old = record { utf8 = All-nil HasUtf8; bytes = refl; front = front_whole old }

-- the value at a place of a tuple, by whatever stands for none
pub at_place : (types : List DataType) (values : List AnyValue) (i : ℕ) (v : AnyValue) → AreOfTypes types values → i < length types → v ≡ value_at values i → v ≡ get_or values i v
at_place types values i v typed lt e =
    e ∙ ap (λ (o : Option AnyValue). unwrap_or o av.Null) (slice_get-get_or values i v (omega (arith, as_long types values typed, lt)))

-- it fits the type there
pub place_fits : (types : List DataType) (values : List AnyValue) (i : ℕ) (t : DataType) (v : AnyValue) → AreOfTypes types values → i < length types → v ≡ get_or values i v → fits v (get_or types i t) ≡ true
place_fits types values i t v typed lt e = subst (λ x. fits x (get_or types i t) ≡ true) (sym e) (fits_at types values i t v typed lt)

-- one more value
pub one_more : (types : List DataType) (values : List AnyValue) (old new after : List ℕ) (i : ℕ) (t : DataType) (v : AnyValue) → AreOfTypes types values → i < length types
    → AreAppended types values old new i → v ≡ get_or values i v → IsValue (get_or types i t) v → after ≡ new ++ value_code (get_or types i t) v
    → AreAppended types values old after (i + 1)
one_more types values old new after i t v typed lt h is value wrote =
    let below : i < length values = omega (arith, as_long types values typed, lt) in
    let e = code_at types values i t v typed lt in
    record {
      utf8 = All-more HasUtf8 values i v below h.utf8 (subst HasUtf8 is value.utf8);
      bytes = grind (arith, common_steps, e, is, wrote, h.bytes);
      front = ap (take (length old)) wrote ∙ front_more old new (value_code (get_or types i t) v) h.front;
    }

-- past the last value all were tested
pub tuple_whole : (types : List DataType) (values : List AnyValue) (old new : List ℕ) (i : ℕ) → AreOfTypes types values → i ≡ length types → AreAppended types values old new i → IsTuple types values
tuple_whole types values old new i typed at h =
    let end : i ≡ length values = omega (arith, as_long types values typed, at) in
    let whole : take i values ≡ values = ap (λ n. take n values) end ∙ take-length values in
    record { of_types = typed; utf8 = subst (All HasUtf8) whole h.utf8 }
