-- What a running aggregate gives fits the types of its columns.
use Rattle.std.proofs.Common.{◌≡◌, ◌∙◌, ℕ, ◌<◌, ◌≤◌, ◌*◌, ◌^◌, ◌==◌, ℤ, pos, negsuc, ◌+ℤ◌, ◌≤ℤ◌, Bool, true, false, List, [], ◌∷◌, length, Option, Some, None, not, if◌then◌else◌, refl, sym, ap, subst, arith}
use Rattle.std.specs.declared.cmp.Ordering.{Ordering}
use Rattle.std.specs.List.{All, Contains, filter, list_all}
use Rattle.std.proofs.lemmas.Bool.{lt-ltb, ltb-true}
use Rattle.std.proofs.lemmas.Int.{ints}
use Rattle.std.proofs.lemmas.List.{length-map}
use Rattle.std.proofs.lemmas.List.Elements.{All-cons, All-contains, All-contains_itself, All-filter, All-map, All-nil}
use Rattle.pipe_columns.specs.declared.any_value.AnyValue.{AnyValue}
use Rattle.pipe_columns.specs.declared.any_value.AnyValue.TheVariants as av
use Rattle.pipe_columns.specs.declared.data_type.DataType.{DataType}
use Rattle.pipe_columns.specs.declared.data_type.DataType.TheVariants as dt
use Rattle.pipe_columns.specs.declared.place.Place.{Place}
use Rattle.pipe_columns.specs.AnyValue.{fits, is_null, is_signed, is_unsigned}
use Rattle.pipe_native.specs.Native.{Native, native_i8, native_i16, native_i32, native_i64, native_u8, native_u16, native_u32, native_u64}
use Rattle.pipe_native.specs.NativeLaws.{is_native_i32, is_native_i64, is_native_u32, is_native_u64}
use Rattle.pipe_running.specs.declared.min_max.Direction.{Direction}
use Rattle.pipe_running.specs.declared.function.AggregateFunction.{AggregateFunction}
use Rattle.pipe_running.specs.declared.function.AggregateFunction.TheVariants as function
use Rattle.pipe_model.specs.Aggregate.{addend, counted, entry_value, exact_sum, present, values_in}
use Rattle.pipe_model.specs.Least.{by_place, from_last, HoldsLeast}
use Rattle.pipe_running.specs.Mean.{MeanState}
use Rattle.pipe_running.specs.Stands.{FitTypes, given_types, held_value, MeanStands, Stands, Suits, tally, value_order}
use Rattle.pipe_columns.specs.DataType.{has_mean}
use Rattle.pipe_running.specs.States.{given, output_values}
use Rattle.pipe_running.specs.Transitions.{extreme_value, mean_given}
use Rattle.pipe_model.proofs.SumFacts.{exact_sum-append}
use Rattle.pipe_running.proofs.TallyFacts.{tally-short}

-- entries whose values fit fit one by one
all-fit : (t : DataType) (xs : List (Place × AnyValue)) → list_all (λ v. fits v t) (values_in xs) ≡ true → All (λ e. fits e.1 t ≡ true) xs
all-fit t [] e = All-nil (λ (e : Place × AnyValue). fits e.1 t ≡ true)
all-fit t (x ∷ xs) e =
    let first : fits x.1 t ≡ true = grind arith in
    let rest : list_all (λ v. fits v t) (values_in xs) ≡ true = grind arith in
    All-cons (λ (e : Place × AnyValue). fits e.1 t ≡ true) x xs first (all-fit t xs rest)

-- ---- counts

-- a count of fewer than 2^32 rows fits
pub counted-fits : (include_null : Bool) (n : ℕ) (xs : List (Place × AnyValue)) → n ≡ tally include_null xs → length xs < 2 ^ 32 → fits (counted n) dt.UInt32 ≡ true
counted-fits include_null n xs e h = let short = tally-short include_null xs in lt-ltb n (2 ^ 32) (omega arith)

-- ---- means

-- a number of 64 bits, with a sign or without
record IsShort (n : ℤ) : Type 0 where
  pub above : pos 0 ≤ℤ (n +ℤ pos (2 ^ 63))
  pub below : n ≤ℤ pos (2 ^ 64)

-- a number with a sign of up to 64 bits
signed-short : (b : ℕ) (n : ℤ) → 2 ^ b ≤ 2 ^ 63 → is_signed b n ≡ true → IsShort n
signed-short b (pos n) s e = let h = ltb-true n (2 ^ b) e in record { above = omega (arith, ints); below = omega (arith, ints) }
signed-short b (negsuc n) s e = let h = ltb-true n (2 ^ b) e in record { above = omega (arith, ints); below = omega (arith, ints) }

-- a number without a sign
unsigned-short : (b : ℕ) (n : ℤ) → 2 ^ b ≤ 2 ^ 64 → is_unsigned b n ≡ true → IsShort n
unsigned-short b (pos n) s e = let h = ltb-true n (2 ^ b) e in record { above = omega (arith, ints); below = omega (arith, ints) }
unsigned-short b (negsuc n) s e = cc

-- a number of a type with a mean
number-short : (t : DataType) (n : ℤ) → has_mean t ≡ true → fits (av.Int n) t ≡ true → IsShort n
number-short dt.Boolean n m e = cc
number-short dt.Int8 n m e = signed-short 7 n (omega arith) e
number-short dt.Int16 n m e = signed-short 15 n (omega arith) e
number-short dt.Int32 n m e = signed-short 31 n (omega arith) e
number-short dt.Int64 n m e = signed-short 63 n (omega arith) e
number-short dt.UInt8 n m e = unsigned-short 8 n (omega arith) e
number-short dt.UInt16 n m e = unsigned-short 16 n (omega arith) e
number-short dt.UInt32 n m e = unsigned-short 32 n (omega arith) e
number-short dt.UInt64 n m e = unsigned-short 64 n (omega arith) e
number-short dt.Int128 n m e = cc
number-short dt.Date n m e = cc
number-short dt.String n m e = cc

-- what a value of such a type adds
addend-short : (t : DataType) (v : AnyValue) → has_mean t ≡ true → fits v t ≡ true → IsShort (addend v)
addend-short t av.Null m e = record { above = omega arith; below = omega arith }
addend-short t (av.Boolean true) m e = record { above = omega arith; below = omega arith }
addend-short t (av.Boolean false) m e = record { above = omega arith; below = omega arith }
addend-short t (av.Int n) m e = number-short t n m e
addend-short t (av.Text s) m e = record { above = omega arith; below = omega arith }

-- so many numbers of 64 bits: the sum lies between -2^63 and 2^64 times their number
record AreShort (sum : ℤ) (count : ℕ) : Type 0 where
  pub above : pos 0 ≤ℤ (sum +ℤ pos (2 ^ 63 * count))
  pub below : sum ≤ℤ pos (2 ^ 64 * count)

sums-short : (t : DataType) (vs : List AnyValue) → has_mean t ≡ true → list_all (λ v. fits v t) vs ≡ true → AreShort (exact_sum vs) (length vs)
sums-short t [] m e = record { above = omega (arith, ints); below = omega (arith, ints) }
sums-short t (v ∷ vs) m e =
    let first : fits v t ≡ true = grind arith in
    let others : list_all (λ v. fits v t) vs ≡ true = grind arith in
    let one = addend-short t v m first in
    let rest = sums-short t vs m others in
    let both : exact_sum (v ∷ vs) ≡ addend v +ℤ exact_sum vs = exact_sum-append (v ∷ []) vs ∙ ap (λ (n : ℤ). n +ℤ exact_sum vs) (zero_plus (addend v)) in
    record { above = omega (arith, ints, both, one.above, rest.above); below = omega (arith, ints, both, one.below, rest.below) }
  where
    zero_plus : (n : ℤ) → pos 0 +ℤ n ≡ n
    zero_plus n = omega (arith, ints)

-- a sum of fewer than 2^32 numbers of 64 bits is one of 128 bits
sum-fits : (n : ℤ) (count : ℕ) → AreShort n count → count < 2 ^ 32 → is_signed 127 n ≡ true
sum-fits (pos n) count s h = lt-ltb n (2 ^ 127) (omega (arith, ints, s.below))
sum-fits (negsuc n) count s h = lt-ltb n (2 ^ 127) (omega (arith, ints, s.above))

-- so the sum of a mean fits
mean-sum-fits : (t : DataType) (xs : List (Place × AnyValue)) → has_mean t ≡ true → list_all (λ v. fits v t) (values_in xs) ≡ true → length xs < 2 ^ 32
    → is_signed 127 (exact_sum (values_in xs)) ≡ true
mean-sum-fits t xs m e h =
    let long = length-map xs (λ (e : Place × AnyValue). e.1) in
    sum-fits (exact_sum (values_in xs)) (length (values_in xs)) (sums-short t (values_in xs) m e) (omega arith)

-- and so does each half
pub mean-fits : (t : DataType) (a : MeanState) (xs : List (Place × AnyValue)) → has_mean t ≡ true → MeanStands a xs → list_all (λ v. fits v t) (values_in xs) ≡ true → length xs < 2 ^ 32
    → FitTypes (output_values (mean_given a)) (dt.Int128 ∷ dt.UInt32 ∷ [])
mean-fits t a xs m h e s = (half (a.count == 0), (counted-fits false a.count xs h.count s, tt)) where
  half : (b : Bool) → fits (if b then av.Null else av.Int a.sum) dt.Int128 ≡ true
  half true = refl
  half false = ap (is_signed 127) h.sum ∙ mean-sum-fits t xs m e s

-- ---- least and greatest, first and last

-- what a filter keeps is in the list
kept : {X : Type 0} (p : X → Bool) (xs : List X) (x : X) → Contains (filter p xs) x → Contains xs x
kept p xs x c = All-contains (Contains xs) (filter p xs) x (All-filter p (Contains xs) xs (All-contains_itself xs)) c

-- a least or greatest value is one of the values

pub extreme-fits : {K : Type 0} (k : Native K) (d : Direction) (e : Option K) (t : DataType) (xs : List (Place × AnyValue))
    → HoldsLeast (value_order d) (held_value k e) (present (values_in xs)) → list_all (λ v. fits v t) (values_in xs) ≡ true → fits (extreme_value k e) t ≡ true
extreme-fits k d None t xs h f = refl
extreme-fits k d (Some n) t xs h f =
    All-contains (λ v. fits v t ≡ true) (values_in xs) (av.Int (k.number n)) (All-map (λ v. fits v t ≡ true) (λ (e : Place × AnyValue). e.1) xs (all-fit t xs f))
    (kept (λ (w : AnyValue). not (is_null w)) (values_in xs) (av.Int (k.number n)) h.within)

-- so is that of a first or last
pub entry-fits : (order : Place × AnyValue → Place × AnyValue → Ordering) (held : Option (Place × AnyValue)) (t : DataType) (xs : List (Place × AnyValue))
    → HoldsLeast order held xs → list_all (λ v. fits v t) (values_in xs) ≡ true → fits (entry_value held) t ≡ true
entry-fits order None t xs h f = refl
entry-fits order (Some e) t xs h f = All-contains (λ (e : Place × AnyValue). fits e.1 t ≡ true) xs e (all-fit t xs f) h.within

-- ---- all kinds

-- values of a type, in fewer than 2^32 rows, give values that fit the output columns, also where places repeat
pub given-fits : (f : AggregateFunction) (t : DataType) (xs : List (Place × AnyValue)) → Suits f t → Stands f xs → list_all (λ v. fits v t) (values_in xs) ≡ true → length xs < 2 ^ 32
    → FitTypes (output_values (given f)) (given_types f)
given-fits (function.First a) t xs s h f n = (subst (λ (u : DataType). fits (entry_value a.held) u ≡ true) (sym s) (entry-fits by_place a.held t xs h f), tt)
given-fits (function.Last a) t xs s h f n = (subst (λ (u : DataType). fits (entry_value a.held) u ≡ true) (sym s) (entry-fits from_last a.held t xs h f), tt)
given-fits (function.Count a) t xs s h f n = (counted-fits false a.count xs h n, tt)
given-fits (function.Len a) t xs s h f n = (counted-fits true a.count xs h n, tt)
given-fits (function.SumU32 a) t xs s h f n = (subst (λ s. fits (av.Int (native_u32.number s)) dt.UInt32 ≡ true) (sym h.sum) (is_native_u32.fits (exact_sum (values_in xs))), tt)
given-fits (function.SumU64 a) t xs s h f n = (subst (λ s. fits (av.Int (native_u64.number s)) dt.UInt64 ≡ true) (sym h.sum) (is_native_u64.fits (exact_sum (values_in xs))), tt)
given-fits (function.SumI32 a) t xs s h f n = (subst (λ s. fits (av.Int (native_i32.number s)) dt.Int32 ≡ true) (sym h.sum) (is_native_i32.fits (exact_sum (values_in xs))), tt)
given-fits (function.SumI64 a) t xs s h f n = (subst (λ s. fits (av.Int (native_i64.number s)) dt.Int64 ≡ true) (sym h.sum) (is_native_i64.fits (exact_sum (values_in xs))), tt)
given-fits (function.Mean a) t xs s h f n = mean-fits t a xs s h f n
given-fits (function.Null a) t xs s h f n = (refl, tt)
given-fits (function.MinMaxU8 a) t xs s h f n = (subst (λ (u : DataType). fits (extreme_value native_u8 a.extreme) u ≡ true) s (extreme-fits native_u8 a.direction a.extreme t xs h f), tt)
given-fits (function.MinMaxU16 a) t xs s h f n = (subst (λ (u : DataType). fits (extreme_value native_u16 a.extreme) u ≡ true) s (extreme-fits native_u16 a.direction a.extreme t xs h f), tt)
given-fits (function.MinMaxU32 a) t xs s h f n = (subst (λ (u : DataType). fits (extreme_value native_u32 a.extreme) u ≡ true) s (extreme-fits native_u32 a.direction a.extreme t xs h f), tt)
given-fits (function.MinMaxU64 a) t xs s h f n = (subst (λ (u : DataType). fits (extreme_value native_u64 a.extreme) u ≡ true) s (extreme-fits native_u64 a.direction a.extreme t xs h f), tt)
given-fits (function.MinMaxI8 a) t xs s h f n = (subst (λ (u : DataType). fits (extreme_value native_i8 a.extreme) u ≡ true) s (extreme-fits native_i8 a.direction a.extreme t xs h f), tt)
given-fits (function.MinMaxI16 a) t xs s h f n = (subst (λ (u : DataType). fits (extreme_value native_i16 a.extreme) u ≡ true) s (extreme-fits native_i16 a.direction a.extreme t xs h f), tt)
given-fits (function.MinMaxI32 a) t xs s h f n = (subst (λ (u : DataType). fits (extreme_value native_i32 a.extreme) u ≡ true) s (extreme-fits native_i32 a.direction a.extreme t xs h f), tt)
given-fits (function.MinMaxI64 a) t xs s h f n = (subst (λ (u : DataType). fits (extreme_value native_i64 a.extreme) u ≡ true) s (extreme-fits native_i64 a.direction a.extreme t xs h f), tt)
