-- What aggregates give, and what results come to, fits the output columns, and is what aggregates can give.
use Rattle.std.proofs.Common.{◌≡◌, ◌∙◌, ℕ, suc, ◌+◌, ◌*◌, ◌<◌, ◌≤◌, ◌^◌, ◌==◌, ◌&&◌, not, ℤ, pos, negsuc, ◌+ℤ◌, ◌≤ℤ◌, unsigned_abs, Bool, true, false, nat_le, List, [], ◌∷◌, ◌++◌, length, map, All, eq-eqb, eqb-true, le-leb, lt-ltb, mod-lt, refl, sym, ap, subst, arith}
use Rattle.std.specs.Int.{int_rem_euclid, int_wrap, w32, w64, w128}
use Rattle.std.specs.Int.RustNames.{FitsSigned}
use Rattle.std.proofs.lemmas.Int.{ints, SFits-int_wrap}
use Rattle.std.proofs.lemmas.List.Elements.{All-cons, All-contains, All-filter, All-nil}
use Rattle.pipe_columns.specs.declared.any_value.AnyValue.{AnyValue}
use Rattle.pipe_columns.specs.declared.any_value.AnyValue.TheVariants as av
use Rattle.pipe_columns.specs.declared.data_type.DataType.{DataType}
use Rattle.pipe_columns.specs.declared.data_type.DataType.TheVariants as dt
use Rattle.pipe_columns.specs.declared.place.Place.{Place}
use Rattle.pipe_columns.specs.AnyValue.{fits, HasUtf8, is_null, is_signed, is_unsigned}
use Rattle.pipe_columns.specs.DataType.{sum_type}
use Rattle.pipe_columns.specs.Frame.{value_at}
use Rattle.pipe_columns.specs.Place.{first_entry, last_entry}
use Rattle.pipe_model.specs.Aggregate.{counted, entry_value, exact_sum, extreme, greater, lesser, present, sum_if_any, total}
use Rattle.pipe_model.specs.Kind.{Kind}
use Rattle.pipe_model.specs.Kind as kind
use Rattle.pipe_model.specs.Output.{agg_fields}
use Rattle.pipe_model.proofs.AggFacts.{greater-holds, lesser-holds}
use Rattle.pipe_model.proofs.PlaceFacts.{first-holds, last-holds}
use Rattle.pipe_model.proofs.SumFacts.{exact_sum-present}
use Rattle.pipe_spill.specs.KeyTypes.{AreOfTypes}
use Rattle.pipe_states.specs.Fair.{can_give, does_sum_suit, is_count_within}
use Rattle.pipe_states.proofs.SummaryFacts.{at-front, at-second}
use mir.Syntax.{Width}
use mir.Val.{hbits}

-- ---- good outputs

-- values that an aggregate over values of a type can give of n rows, wherever they stand
pub record IsGood (k : Kind) (t : DataType) (n : ℕ) (out : List AnyValue) : Type 0 where
  pub typed : AreOfTypes (map (λ f. f.dtype) (agg_fields [] k t)) out
  pub utf8 : All HasUtf8 out
  pub can : (front rest : List AnyValue) → can_give k t n (value_at (front ++ (out ++ rest)) (length front)) (value_at (front ++ (out ++ rest)) (length front + 1)) ≡ true

-- one value, where the one behind it doesn't matter
one_good : (k : Kind) (t u : DataType) (n : ℕ) (v : AnyValue) → map (λ f. f.dtype) (agg_fields [] k t) ≡ u ∷ [] → fits v u ≡ true → HasUtf8 v → ((w : AnyValue) → can_give k t n v w ≡ true)
    → IsGood k t n (v ∷ [])
one_good k t u n v e f h c = record {
  typed = subst (λ (types : List DataType). AreOfTypes types (v ∷ [])) (sym e) (f, tt);
  utf8 = All-cons HasUtf8 v [] h (All-nil HasUtf8);
  can = λ front rest. ap (λ (x : AnyValue). can_give k t n x (value_at (front ++ v ∷ rest) (length front + 1))) (at-front front rest v) ∙ c _;
}

-- ---- sums

-- a number with a sign that fits so many bits is in the range
signed-in : (w : Width) (z : ℤ) → FitsSigned w z → is_signed (hbits w) z ≡ true
signed-in w (pos n) f = lt-ltb n (2 ^ hbits w) (omega (arith, ints))
signed-in w (negsuc n) f = lt-ltb n (2 ^ hbits w) (omega (arith, ints))

-- so is a wrapped one
wrapped-in : (w : Width) (z : ℤ) → is_signed (hbits w) (int_wrap w z) ≡ true
wrapped-in w z = signed-in w (int_wrap w z) (SFits-int_wrap w z)

-- what is left of a number without a sign is in the range
left-in : (b : ℕ) (n : ℕ) → 0 < n → n ≤ 2 ^ b → (z : ℤ) → is_unsigned b (int_rem_euclid z (pos n)) ≡ true
left-in b n some most (pos a) = let small = mod-lt a some in lt-ltb _ (2 ^ b) (omega (arith, small))
left-in b n some most (negsuc a) = lt-ltb _ (2 ^ b) (omega arith)

-- a sum is good
pub total-good : (t : DataType) (n : ℕ) (vs : List AnyValue) → IsGood kind.sum t n (total t vs ∷ [])
total-good dt.Boolean n vs = one_good kind.sum dt.Boolean dt.UInt32 n (total dt.Boolean vs) refl (left-in 32 (2 ^ 32) (omega arith) (omega arith) (exact_sum vs)) tt (λ w. refl)
total-good dt.Int8 n vs = one_good kind.sum dt.Int8 dt.Int64 n (total dt.Int8 vs) refl (wrapped-in w64 (exact_sum vs)) tt (λ w. refl)
total-good dt.Int16 n vs = one_good kind.sum dt.Int16 dt.Int64 n (total dt.Int16 vs) refl (wrapped-in w64 (exact_sum vs)) tt (λ w. refl)
total-good dt.Int32 n vs = one_good kind.sum dt.Int32 dt.Int32 n (total dt.Int32 vs) refl (wrapped-in w32 (exact_sum vs)) tt (λ w. refl)
total-good dt.Int64 n vs = one_good kind.sum dt.Int64 dt.Int64 n (total dt.Int64 vs) refl (wrapped-in w64 (exact_sum vs)) tt (λ w. refl)
total-good dt.UInt8 n vs = one_good kind.sum dt.UInt8 dt.Int64 n (total dt.UInt8 vs) refl (wrapped-in w64 (exact_sum vs)) tt (λ w. refl)
total-good dt.UInt16 n vs = one_good kind.sum dt.UInt16 dt.Int64 n (total dt.UInt16 vs) refl (wrapped-in w64 (exact_sum vs)) tt (λ w. refl)
total-good dt.UInt32 n vs = one_good kind.sum dt.UInt32 dt.UInt32 n (total dt.UInt32 vs) refl (left-in 32 (2 ^ 32) (omega arith) (omega arith) (exact_sum vs)) tt (λ w. refl)
total-good dt.UInt64 n vs = one_good kind.sum dt.UInt64 dt.UInt64 n (total dt.UInt64 vs) refl (left-in 64 (2 ^ 64) (omega arith) (omega arith) (exact_sum vs)) tt (λ w. refl)
total-good dt.Int128 n vs = one_good kind.sum dt.Int128 dt.Int128 n (total dt.Int128 vs) refl (wrapped-in w128 (exact_sum vs)) tt (λ w. refl)
total-good dt.Date n vs = one_good kind.sum dt.Date dt.Date n (total dt.Date vs) refl (wrapped-in w32 (exact_sum vs)) tt (λ w. refl)
total-good dt.String n vs = one_good kind.sum dt.String dt.String n av.Null refl refl tt (λ w. refl)

-- a sum of sums too
pub totals-good : (t : DataType) (n : ℕ) (vs : List AnyValue) → IsGood kind.sum t n (total (sum_type t) vs ∷ [])
totals-good dt.Boolean n vs = one_good kind.sum dt.Boolean dt.UInt32 n (total dt.UInt32 vs) refl (left-in 32 (2 ^ 32) (omega arith) (omega arith) (exact_sum vs)) tt (λ w. refl)
totals-good dt.Int8 n vs = one_good kind.sum dt.Int8 dt.Int64 n (total dt.Int64 vs) refl (wrapped-in w64 (exact_sum vs)) tt (λ w. refl)
totals-good dt.Int16 n vs = one_good kind.sum dt.Int16 dt.Int64 n (total dt.Int64 vs) refl (wrapped-in w64 (exact_sum vs)) tt (λ w. refl)
totals-good dt.Int32 n vs = total-good dt.Int32 n vs
totals-good dt.Int64 n vs = total-good dt.Int64 n vs
totals-good dt.UInt8 n vs = one_good kind.sum dt.UInt8 dt.Int64 n (total dt.Int64 vs) refl (wrapped-in w64 (exact_sum vs)) tt (λ w. refl)
totals-good dt.UInt16 n vs = one_good kind.sum dt.UInt16 dt.Int64 n (total dt.Int64 vs) refl (wrapped-in w64 (exact_sum vs)) tt (λ w. refl)
totals-good dt.UInt32 n vs = total-good dt.UInt32 n vs
totals-good dt.UInt64 n vs = total-good dt.UInt64 n vs
totals-good dt.Int128 n vs = total-good dt.Int128 n vs
totals-good dt.Date n vs = total-good dt.Date n vs
totals-good dt.String n vs = total-good dt.String n vs

-- ---- least and greatest, first and last

-- what holds of null and of values holds of those that are no null, and of the least of them
least-keeps : (P : AnyValue → Type 0) → P av.Null → (vs : List AnyValue) → All P vs → P (extreme lesser vs)
least-keeps P none [] h = none
least-keeps P none (v ∷ vs) h = All-contains P (v ∷ vs) _ h (lesser-holds v vs).within

greatest-keeps : (P : AnyValue → Type 0) → P av.Null → (vs : List AnyValue) → All P vs → P (extreme greater vs)
greatest-keeps P none [] h = none
greatest-keeps P none (v ∷ vs) h = All-contains P (v ∷ vs) _ h (greater-holds v vs).within

-- and of the first of entries
first-keeps : (P : AnyValue → Type 0) → P av.Null → (es : List (Place × AnyValue)) → All (λ e. P e.1) es → P (entry_value (first_entry es))
first-keeps P none [] h = none
first-keeps P none (e ∷ es) h = All-contains (λ (x : Place × AnyValue). P x.1) (e ∷ es) _ h (first-holds (e ∷ es)).within

last-keeps : (P : AnyValue → Type 0) → P av.Null → (es : List (Place × AnyValue)) → All (λ e. P e.1) es → P (entry_value (last_entry es))
last-keeps P none [] h = none
last-keeps P none (e ∷ es) h = All-contains (λ (x : Place × AnyValue). P x.1) (e ∷ es) _ h (last-holds (e ∷ es)).within

-- values that fit a type and are in UTF-8
pub record Fit (t : DataType) (v : AnyValue) : Type 0 where
  pub fits : fits v t ≡ true
  pub utf8 : HasUtf8 v

-- null is one
null-fits : (t : DataType) → Fit t av.Null
null-fits t = record { fits = refl; utf8 = tt }

-- the least of such values is good
pub least-good : (t : DataType) (n : ℕ) (vs : List AnyValue) → All (Fit t) vs → IsGood kind.min t n (extreme lesser (present vs) ∷ [])
least-good t n vs h =
    let fit = least-keeps (Fit t) (null-fits t) (present vs) (All-filter (λ (v : AnyValue). not (is_null v)) (Fit t) vs h) in
    one_good kind.min t t n (extreme lesser (present vs)) refl fit.fits fit.utf8 (λ w. refl)

pub greatest-good : (t : DataType) (n : ℕ) (vs : List AnyValue) → All (Fit t) vs → IsGood kind.max t n (extreme greater (present vs) ∷ [])
greatest-good t n vs h =
    let fit = greatest-keeps (Fit t) (null-fits t) (present vs) (All-filter (λ (v : AnyValue). not (is_null v)) (Fit t) vs h) in
    one_good kind.max t t n (extreme greater (present vs)) refl fit.fits fit.utf8 (λ w. refl)

-- and so is the first of them, and the last
pub first-good : (t : DataType) (n : ℕ) (es : List (Place × AnyValue)) → All (λ e. Fit t e.1) es → IsGood kind.first t n (entry_value (first_entry es) ∷ [])
first-good t n es h = let fit = first-keeps (Fit t) (null-fits t) es h in one_good kind.first t t n (entry_value (first_entry es)) refl fit.fits fit.utf8 (λ w. refl)

pub last-good : (t : DataType) (n : ℕ) (es : List (Place × AnyValue)) → All (λ e. Fit t e.1) es → IsGood kind.last t n (entry_value (last_entry es) ∷ [])
last-good t n es h = let fit = last-keeps (Fit t) (null-fits t) es h in one_good kind.last t t n (entry_value (last_entry es)) refl fit.fits fit.utf8 (λ w. refl)

-- ---- counts

-- a count of fewer than 2^32 rows is good
pub count-good : (t : DataType) (m n : ℕ) → m ≤ n → n < 2 ^ 32 → IsGood kind.count t n (counted m ∷ [])
count-good t m n le few = one_good kind.count t dt.UInt32 n (counted m) refl (lt-ltb m (2 ^ 32) (omega arith)) tt (λ w. le-leb m n le)

-- and so is their number
pub len-good : (t : DataType) (n : ℕ) → n < 2 ^ 32 → IsGood kind.len t n (counted n ∷ [])
len-good t n few = one_good kind.len t dt.UInt32 n (counted n) refl (lt-ltb n (2 ^ 32) few) tt (λ w. eq-eqb n n refl)

-- ---- means

-- a number that is at most so many times 2^64 in size
pub record IsSmall (z : ℤ) (count : ℕ) : Type 0 where
  pub above : pos 0 ≤ℤ (z +ℤ pos (2 ^ 64 * count))
  pub below : z ≤ℤ pos (2 ^ 64 * count)

-- none is
pub small-none : IsSmall (pos 0) 0
small-none = record { above = omega (arith, ints); below = omega (arith, ints) }

-- and so are two together
pub small-both : (y z : ℤ) (m n : ℕ) → IsSmall y m → IsSmall z n → IsSmall (y +ℤ z) (m + n)
small-both y z m n a b = record { above = omega (arith, ints, a.above, b.above); below = omega (arith, ints, a.below, b.below) }

-- by its size
small-size : (z : ℤ) (count : ℕ) → IsSmall z count → unsigned_abs z ≤ count * 2 ^ 64
small-size (pos n) count s = omega (arith, ints, s.below)
small-size (negsuc n) count s = omega (arith, ints, s.above)

pub size-small : (z : ℤ) (count : ℕ) → unsigned_abs z ≤ count * 2 ^ 64 → IsSmall z count
size-small (pos n) count s = record { above = omega (arith, ints, s); below = omega (arith, ints, s) }
size-small (negsuc n) count s = record { above = omega (arith, ints, s); below = omega (arith, ints, s) }

-- such a number of fewer than 2^32 is one of 128 bits
small-fits : (z : ℤ) (count : ℕ) → IsSmall z count → count < 2 ^ 32 → is_signed 127 z ≡ true
small-fits (pos n) count s few = lt-ltb n (2 ^ 127) (omega (arith, ints, s.below))
small-fits (negsuc n) count s few = lt-ltb n (2 ^ 127) (omega (arith, ints, s.above))

-- both halves of a mean
pub record AreHalves (v : AnyValue) (count n : ℕ) : Type 0 where
  pub fits : fits v dt.Int128 ≡ true
  pub utf8 : HasUtf8 v
  pub suits : does_sum_suit v (counted count) ≡ true
  pub within : count ≤ n

-- a test that isn't met by zero
not_zero : (m : ℕ) → 0 < m → not (m == 0) ≡ true
not_zero m some = by (m == 0) refl where
  by : (b : Bool) → (m == 0) ≡ b → not (m == 0) ≡ true
  by true e = let none : m ≡ 0 = eqb-true m 0 e in absurd (omega (arith, some, none))
  by false e = ap not e

and_true : (a b : Bool) → a ≡ true → b ≡ true → a && b ≡ true
and_true a b e f = λ i. e i && f i

-- the sum of some values, if any, of so many that are no null
pub sum-halves : (vs : List AnyValue) (count n : ℕ) → (present vs ≡ [] → count ≡ 0) → ((x : AnyValue) (xs : List AnyValue) → present vs ≡ x ∷ xs → 0 < count) → IsSmall (exact_sum vs) count → count ≤ n → n < 2 ^ 32
    → AreHalves (sum_if_any (present vs)) count n
sum-halves vs count n none some small le few = by (present vs) refl where
  by : (xs : List AnyValue) → present vs ≡ xs → AreHalves (sum_if_any (present vs)) count n
  by [] e = subst (λ (l : List AnyValue). AreHalves (sum_if_any l) count n) (sym e) (record { fits = refl; utf8 = tt; suits = eq-eqb count 0 (none e); within = le })
  by (x ∷ xs) e =
      let whole : exact_sum (x ∷ xs) ≡ exact_sum vs = ap exact_sum (sym e) ∙ exact_sum-present vs in
      let here : IsSmall (exact_sum (x ∷ xs)) count = subst (λ (z : ℤ). IsSmall z count) (sym whole) small in
      subst (λ (l : List AnyValue). AreHalves (sum_if_any l) count n) (sym e) (record {
        fits = small-fits (exact_sum (x ∷ xs)) count here (omega arith);
        utf8 = tt;
        suits = and_true (not (count == 0)) (nat_le (unsigned_abs (exact_sum (x ∷ xs))) (count * 2 ^ 64)) (not_zero count (some x xs e))
            (le-leb (unsigned_abs (exact_sum (x ∷ xs))) (count * 2 ^ 64) (small-size (exact_sum (x ∷ xs)) count here));
        within = le;
      })

-- such halves are good
halves-good : (t : DataType) (v : AnyValue) (count n : ℕ) → map (λ f. f.dtype) (agg_fields [] kind.mean t) ≡ dt.Int128 ∷ dt.UInt32 ∷ []
    → ((x y : AnyValue) → can_give kind.mean t n x y ≡ is_count_within n y && does_sum_suit x y) → AreHalves v count n → n < 2 ^ 32 → IsGood kind.mean t n (v ∷ counted count ∷ [])
halves-good t v count n e c h few =
    let le = h.within in
    record {
      typed = subst (λ (types : List DataType). AreOfTypes types (v ∷ counted count ∷ [])) (sym e) (h.fits, (lt-ltb count (2 ^ 32) (omega arith), tt));
      utf8 = All-cons HasUtf8 v (counted count ∷ []) h.utf8 (All-cons HasUtf8 (counted count) [] tt (All-nil HasUtf8));
      can = λ front rest.
          (λ i. can_give kind.mean t n (at-front front (counted count ∷ rest) v i) (value_at (front ++ v ∷ counted count ∷ rest) (length front + 1)))
          ∙ ap (can_give kind.mean t n v) (ap (value_at (front ++ v ∷ counted count ∷ rest)) (next (length front)) ∙ at-second front rest v (counted count))
          ∙ c v (counted count)
          ∙ and_true (is_count_within n (counted count)) (does_sum_suit v (counted count)) (le-leb count n le) h.suits;
    }
  where
    next : (m : ℕ) → m + 1 ≡ suc m
    next m = omega arith

-- so is the null of texts
pub texts-good : (n : ℕ) → IsGood kind.mean dt.String n (av.Null ∷ [])
texts-good n = one_good kind.mean dt.String dt.String n av.Null refl refl tt (λ w. refl)

-- the values of a mean over values of a type: of texts there is one null
abbrev pub mean_values : DataType → AnyValue → AnyValue → List AnyValue
mean_values dt.String v w = av.Null ∷ []
mean_values t v w = v ∷ w ∷ []

-- they are good where the halves of all but texts are
pub mean-good : (t : DataType) (v : AnyValue) (count n : ℕ) → AreHalves v count n → n < 2 ^ 32 → IsGood kind.mean t n (mean_values t v (counted count))
mean-good dt.Boolean v count n h few = halves-good dt.Boolean v count n refl (λ x y. refl) h few
mean-good dt.Int8 v count n h few = halves-good dt.Int8 v count n refl (λ x y. refl) h few
mean-good dt.Int16 v count n h few = halves-good dt.Int16 v count n refl (λ x y. refl) h few
mean-good dt.Int32 v count n h few = halves-good dt.Int32 v count n refl (λ x y. refl) h few
mean-good dt.Int64 v count n h few = halves-good dt.Int64 v count n refl (λ x y. refl) h few
mean-good dt.UInt8 v count n h few = halves-good dt.UInt8 v count n refl (λ x y. refl) h few
mean-good dt.UInt16 v count n h few = halves-good dt.UInt16 v count n refl (λ x y. refl) h few
mean-good dt.UInt32 v count n h few = halves-good dt.UInt32 v count n refl (λ x y. refl) h few
mean-good dt.UInt64 v count n h few = halves-good dt.UInt64 v count n refl (λ x y. refl) h few
mean-good dt.Int128 v count n h few = halves-good dt.Int128 v count n refl (λ x y. refl) h few
mean-good dt.Date v count n h few = halves-good dt.Date v count n refl (λ x y. refl) h few
mean-good dt.String v count n h few = texts-good n
