-- The results in front, which one running aggregate gives, and the values that they are saved as.
use Rattle.std.proofs.Common.{◌≡◌, ◌∙◌, ◌+◌, ◌-◌, ◌<◌, ◌≤◌, ℕ, Bool, true, false, List, [], ◌∷◌, length, take, drop, get_or, sym, ap, arith}
use Rattle.std.specs.Prelude.{Some, option_map}
use Rattle.std.proofs.lemmas.Bool.{false≢true}
use Rattle.std.proofs.lemmas.List.{drop-drop}
use Rattle.pipe_columns.specs.declared.any_value.AnyValue.{AnyValue}
use Rattle.pipe_columns.specs.declared.data_type.DataType.{DataType}
use Rattle.pipe_columns.specs.declared.data_type.DataType.TheVariants as dt
use Rattle.pipe_columns.specs.AnyValue.{fits}
use Rattle.pipe_columns.specs.Frame.{value_at}
use Rattle.pipe_running.specs.States.{first_type}
use Rattle.pipe_running.specs.declared.function.AggregateFunction.{AggregateFunction}
use Rattle.pipe_spill.specs.KeyTypes.{AreOfTypes}
use Rattle.pipe_states.specs.Forms.{BeginWithResults, is_mean, joined_halves, restored, saved_of, saved_types_of, saved_width, width}
use Rattle.pipe_states.specs.StateText.{high_half, low_half}
use Rattle.pipe_states.proofs.Forms.{value_at-drop}
use Rattle.pipe_states.proofs.Saved.{back, rt, wd, st, sv, sw}

-- ---- results

-- the results of a mean in front
pub record IsMeanFront (f : AggregateFunction) (rs : List AnyValue) (v w : AnyValue) : Type 0 where
  pub types : saved_types_of f ≡ dt.Int64 ∷ dt.UInt64 ∷ dt.UInt32 ∷ []
  pub saved : saved_of f rs ≡ high_half v ∷ low_half v ∷ w ∷ []
  pub fit : fits w dt.UInt32 ≡ true
  pub first : value_at rs 0 ≡ v
  pub second : value_at rs 1 ≡ w

-- the result of another in front
pub record IsPlainFront (f : AggregateFunction) (rs : List AnyValue) (v : AnyValue) : Type 0 where
  pub types : saved_types_of f ≡ first_type f ∷ []
  pub saved : saved_of f rs ≡ v ∷ []
  pub fit : fits v (first_type f) ≡ true
  pub first : value_at rs 0 ≡ v

-- there are as many results as it gives
pub wide_enough : (f : AggregateFunction) (rs : List AnyValue) → BeginWithResults f rs → width f ≤ length rs
wide_enough f rs h = by (is_mean f) rs h where
  by : (b : Bool) (rs : List AnyValue) → AreOfTypes (rt b (first_type f)) (take (wd b) rs) → wd b ≤ length rs
  by true [] h = absurd h
  by true (v ∷ []) h = absurd h.1
  by true (v ∷ w ∷ rs) h = omega arith
  by false [] h = absurd h
  by false (v ∷ rs) h = omega arith

-- two of a mean
pub two_there : (f : AggregateFunction) (rs : List AnyValue) → is_mean f ≡ true → BeginWithResults f rs → 1 < length rs
two_there f rs m h =
    let wide : width f ≤ length rs = wide_enough f rs h in
    let two : width f ≡ 2 = ap (λ (b : Bool). wd b) m in
    omega (arith, wide, two)

-- each gives one at least
at_least : (b : Bool) → 1 ≤ wd b
at_least true = omega arith
at_least false = omega arith

-- one at least
pub one_there : (f : AggregateFunction) (rs : List AnyValue) → BeginWithResults f rs → 0 < length rs
one_there f rs h =
    let wide : width f ≤ length rs = wide_enough f rs h in
    let one : 1 ≤ width f = at_least (is_mean f) in
    omega (arith, wide, one)

-- the first two values of a list
firsts-are : (rs : List AnyValue) (v w : AnyValue) → 1 < length rs → v ≡ get_or rs 0 v → w ≡ get_or rs 1 w → (value_at rs 0 ≡ v) × (value_at rs 1 ≡ w)
firsts-are [] v w h p q = absurd (omega (arith, h))
firsts-are (x ∷ []) v w h p q = absurd (omega (arith, h))
firsts-are (x ∷ y ∷ rs) v w h p q = (sym p, sym q)

-- and the first alone
first-is : (rs : List AnyValue) (v : AnyValue) → 0 < length rs → v ≡ get_or rs 0 v → value_at rs 0 ≡ v
first-is [] v h p = absurd (omega (arith, h))
first-is (x ∷ rs) v h p = sym p

-- the fit of a mean's count
count_fits : (t : DataType) (rs : List AnyValue) → AreOfTypes (rt true t) (take 2 rs) → fits (value_at rs 1) dt.UInt32 ≡ true
count_fits t [] h = absurd h
count_fits t (v ∷ []) h = absurd h.1
count_fits t (v ∷ w ∷ rs) h = h.1.0

-- that of another result
value_fits : (t : DataType) (rs : List AnyValue) → AreOfTypes (rt false t) (take 1 rs) → fits (value_at rs 0) t ≡ true
value_fits t [] h = absurd h
value_fits t (v ∷ rs) h = h.0

-- what stands for a mean stands for one that is known to be none, and the other way
typed_by : (b c : Bool) (t : DataType) (rs : List AnyValue) → b ≡ c → AreOfTypes (rt b t) (take (wd b) rs) → AreOfTypes (rt c t) (take (wd c) rs)
typed_by true true t rs e h = h
typed_by false false t rs e h = h
typed_by true false t rs e h = absurd (false≢true (sym e))
typed_by false true t rs e h = absurd (false≢true e)

pub mean_front : (f : AggregateFunction) (rs : List AnyValue) (v w : AnyValue) → is_mean f ≡ true → BeginWithResults f rs → v ≡ get_or rs 0 v → w ≡ get_or rs 1 w
    → IsMeanFront f rs v w
mean_front f rs v w m h p q =
    let at = firsts-are rs v w (two_there f rs m h) p q in
    record {
      types = ap (λ (b : Bool). st b (first_type f)) m;
      saved = ap (λ (b : Bool). sv b rs) m ∙ (λ i. high_half (at.0 i) ∷ low_half (at.0 i) ∷ at.1 i ∷ []);
      fit = ap (λ (x : AnyValue). fits x dt.UInt32) (sym at.1) ∙ count_fits (first_type f) rs (typed_by (is_mean f) true (first_type f) rs m h);
      first = at.0;
      second = at.1;
    }

pub plain_front : (f : AggregateFunction) (rs : List AnyValue) (v : AnyValue) → is_mean f ≡ false → BeginWithResults f rs → v ≡ get_or rs 0 v → IsPlainFront f rs v
plain_front f rs v m h p =
    let at = first-is rs v (one_there f rs h) p in
    record {
      types = ap (λ (b : Bool). st b (first_type f)) m;
      saved = ap (λ (b : Bool). sv b rs) m ∙ ap (λ (x : AnyValue). x ∷ []) at;
      fit = ap (λ (x : AnyValue). fits x (first_type f)) (sym at) ∙ value_fits (first_type f) rs (typed_by (is_mean f) false (first_type f) rs m h);
      first = at;
    }

-- ---- values that were saved

-- the fits of the halves of a mean's sum
halves_fit : (t : DataType) (vs : List AnyValue) → AreOfTypes (st true t) (take 3 vs) → (fits (value_at vs 0) dt.Int64 ≡ true) × (fits (value_at vs 1) dt.UInt64 ≡ true)
halves_fit t [] h = absurd h
halves_fit t (a ∷ []) h = absurd h.1
halves_fit t (a ∷ b ∷ []) h = absurd h.1.1
halves_fit t (a ∷ b ∷ c ∷ vs) h = (h.0, h.1.0)

saved_by : (b c : Bool) (t : DataType) (vs : List AnyValue) → b ≡ c → AreOfTypes (st b t) (take (sw b) vs) → AreOfTypes (st c t) (take (sw c) vs)
saved_by true true t vs e h = h
saved_by false false t vs e h = h
saved_by true false t vs e h = absurd (false≢true (sym e))
saved_by false true t vs e h = absurd (false≢true e)

-- lists that agree from a place on have the same values there
pub at_later : (old new : List AnyValue) (n m : ℕ) → drop n new ≡ drop n old → n ≤ m → value_at new m ≡ value_at old m
at_later old new n m e le =
    let is : n + (m - n) ≡ m = omega (arith, le) in
    ap (value_at new) (sym is) ∙ sym (value_at-drop n (m - n) new) ∙ ap (λ (l : List AnyValue). value_at l (m - n)) e ∙ value_at-drop n (m - n) old ∙ ap (value_at old) is

-- the saved values of a mean, from a position on
pub record IsSavedMean (f : AggregateFunction) (vs : List AnyValue) (j : ℕ) (high low count : AnyValue) : Type 0 where
  pub high_fits : fits high dt.Int64 ≡ true
  pub low_fits : fits low dt.UInt64 ≡ true
  pub gives : restored f (drop j vs) ≡ option_map (λ (sum : AnyValue). sum ∷ count ∷ []) (joined_halves high low)
  pub three : saved_width f ≡ 3

pub saved_mean : (f : AggregateFunction) (vs : List AnyValue) (j : ℕ) (high low count : AnyValue) → is_mean f ≡ true
    → AreOfTypes (saved_types_of f) (take (saved_width f) (drop j vs)) → high ≡ value_at vs j → low ≡ value_at vs (j + 1) → count ≡ value_at vs (j + 2)
    → IsSavedMean f vs j high low count
saved_mean f vs j high low count m h p q r =
    let rest : List AnyValue = drop j vs in
    let fit = halves_fit (first_type f) rest (saved_by (is_mean f) true (first_type f) rest m h) in
    let a : value_at rest 0 ≡ high = value_at-drop j 0 vs ∙ ap (value_at vs) {x = j + 0} {y = j} (omega arith) ∙ sym p in
    let b : value_at rest 1 ≡ low = value_at-drop j 1 vs ∙ sym q in
    let c : value_at rest 2 ≡ count = value_at-drop j 2 vs ∙ sym r in
    record {
      high_fits = ap (λ (x : AnyValue). fits x dt.Int64) (sym a) ∙ fit.0;
      low_fits = ap (λ (x : AnyValue). fits x dt.UInt64) (sym b) ∙ fit.1;
      gives = ap (λ (t : Bool). back t rest) m ∙ (λ i. option_map (λ (sum : AnyValue). sum ∷ c i ∷ []) (joined_halves (a i) (b i)));
      three = ap (λ (t : Bool). sw t) m;
    }

-- of three values that are taken out one after another
pub taken_mean : (f : AggregateFunction) (old v1 v2 : List AnyValue) (j : ℕ) (high low count : AnyValue) → is_mean f ≡ true
    → AreOfTypes (saved_types_of f) (take (saved_width f) (drop j old)) → high ≡ value_at old j → drop (j + 1) v1 ≡ drop (j + 1) old → low ≡ value_at v1 (j + 1)
    → drop (j + 1 + 1) v2 ≡ drop (j + 1 + 1) v1 → count ≡ value_at v2 (j + 2) → IsSavedMean f old j high low count
taken_mean f old v1 v2 j high low count m h p d q e r =
    saved_mean f old j high low count m h p
    (q ∙ at_later old v1 (j + 1) (j + 1) d (omega arith))
    (r ∙ at_later v1 v2 (j + 1 + 1) (j + 2) e (omega arith) ∙ at_later old v1 (j + 1) (j + 2) d (omega arith))

-- the saved value of another
pub saved_plain : (f : AggregateFunction) (vs : List AnyValue) (j : ℕ) (value : AnyValue) → is_mean f ≡ false → value ≡ value_at vs j
    → restored f (drop j vs) ≡ Some (value ∷ [])
saved_plain f vs j value m p =
    let a : value_at (drop j vs) 0 ≡ value = value_at-drop j 0 vs ∙ ap (value_at vs) {x = j + 0} {y = j} (omega arith) ∙ sym p in
    ap (λ (t : Bool). back t (drop j vs)) m ∙ ap (λ (x : AnyValue). Some (x ∷ [])) a

-- lists that agree from a place on do so from each later one
pub later : (old new : List AnyValue) (n m k : ℕ) → drop n new ≡ drop n old → n + k ≡ m → drop m new ≡ drop m old
later old new n m k e is =
    ap (λ (i : ℕ). drop i new) (sym is) ∙ sym (drop-drop k n new) ∙ ap (drop k) e ∙ drop-drop k n old ∙ ap (λ (i : ℕ). drop i old) is
