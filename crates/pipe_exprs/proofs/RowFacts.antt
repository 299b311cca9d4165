-- Lists of a value for each row.
use Rattle.std.proofs.Common.{Option, Some, None, get_or, ◌++◌, ◌≡◌, ◌+◌, ◌<◌, ◌≤◌, ℕ, zero, suc, List, [], ◌∷◌, length, map, Bool, true, false, refl, arith, ap}
use Rattle.std.specs.Prelude.{IfNone, IsSome}
use Rattle.std.specs.List.{list_all, range_with_len}
use Rattle.pipe_columns.specs.declared.any_value.AnyValue.{AnyValue}
use Rattle.pipe_columns.specs.declared.any_value.AnyValue.TheVariants as av
use Rattle.pipe_columns.specs.declared.data_type.DataType.{DataType}
use Rattle.pipe_columns.specs.AnyValue.{fits}
use Rattle.std.proofs.lemmas.List.FromFn.{map-range_with_len_more}
use Rattle.std.proofs.lemmas.Option.{slice_get_read}
use Rattle.pipe_columns.specs.Frame.{all_fit, value_at}

-- a test that passes at each place passes in the list of what is there
pub list_all-range : {X : Type 0} (test : X → Bool) (f : ℕ → X) (a n : ℕ) → ((i : ℕ) → a ≤ i → i < a + n → test (f i) ≡ true) → list_all test (map f (range_with_len a n)) ≡ true
list_all-range test f a zero h = refl
list_all-range test f a (suc n) h = rw (h a (omega arith) (omega arith)) (list_all-range test f (a + 1) n (λ i l m. h i (omega arith) (omega arith)))

-- two functions that agree at each place give one list
pub map-range : {X : Type 0} (f g : ℕ → X) (a n : ℕ) → ((i : ℕ) → a ≤ i → i < a + n → f i ≡ g i) → map f (range_with_len a n) ≡ map g (range_with_len a n)
map-range f g a zero h = refl
map-range f g a (suc n) h = rw (h a (omega arith) (omega arith)) (ap (λ t. g a ∷ t) (map-range f g (a + 1) n (λ i l m. h i (omega arith) (omega arith))))

-- nulls fit each type
pub nulls-fit : (t : DataType) (a n : ℕ) → all_fit t (map (λ row. av.Null) (range_with_len a n)) ≡ true
nulls-fit t a n = list_all-range (λ (v : AnyValue). fits v t) (λ row. av.Null) a n (λ i l m. refl)

-- what is none only where a test fails is there where it passes
pub is_there : {X : Type 0} (r : Option X) (b : Bool) → IfNone r (b ≡ false) → b ≡ true → IsSome r
is_there None b e t = cc
is_there (Some x) b e t = refl

-- the values of one more row
pub rows_more : {X : Type 0} (f : ℕ → X) (n : ℕ) → map f (range_with_len 0 (n + 1)) ≡ map f (range_with_len 0 n) ++ f n ∷ []
rows_more f n = map-range_with_len_more f 0 n n (omega arith)

-- the value that is read at a place
pub value_read : (xs : List AnyValue) (i : ℕ) (x : AnyValue) → i < length xs → x ≡ get_or xs i x → x ≡ value_at xs i
value_read xs i x h e = rw (slice_get_read xs (length xs) i x refl h e) refl
