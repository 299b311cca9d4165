-- The exact sum and the number of values of entries, of two lists together, and of the same list in another order.
use Rattle.std.proofs.Common.{◌≡◌, ◌∙◌, ◌+◌, ◌≤◌, ◌+ℤ◌, Bool, true, false, not, List, [], ◌∷◌, ◌++◌, length, sym, ap, arith}
use Rattle.std.specs.List.Sorted.{IsPermutation}
use Rattle.std.proofs.lemmas.List.{length-append, map-append}
use Rattle.std.proofs.lemmas.List.Elements.{filter-append}
use Rattle.std.proofs.lemmas.List.Sorted.{IsPermutation-map, length_permutation}
use Rattle.pipe_columns.specs.declared.any_value.AnyValue.{AnyValue}
use Rattle.pipe_columns.specs.declared.any_value.AnyValue.TheVariants as av
use Rattle.pipe_columns.specs.declared.place.Place.{Place}
use Rattle.pipe_columns.specs.AnyValue.{is_null}
use Rattle.pipe_model.specs.Aggregate.{exact_sum, present, values_in}
use Rattle.pipe_model.proofs.MovedFacts.{present-moved}
use Rattle.pipe_model.proofs.SumFacts.{exact_sum-append, exact_sum-moved}
use Rattle.pipe_running.specs.Stands.{tally}

-- ---- two lists together

-- the values of entries of two lists
values_in-append : (xs ys : List (Place × AnyValue)) → values_in (xs ++ ys) ≡ values_in xs ++ values_in ys
values_in-append xs ys = map-append (λ (e : Place × AnyValue). e.1) xs ys

-- those that are no null
pub present_in-append : (xs ys : List (Place × AnyValue)) → present (values_in (xs ++ ys)) ≡ present (values_in xs) ++ present (values_in ys)
present_in-append xs ys = ap present (values_in-append xs ys) ∙ filter-append (λ (v : AnyValue). not (is_null v)) (values_in xs) (values_in ys)

-- their exact sum
pub sum_in-append : (xs ys : List (Place × AnyValue)) → exact_sum (values_in (xs ++ ys)) ≡ exact_sum (values_in xs) +ℤ exact_sum (values_in ys)
sum_in-append xs ys = ap exact_sum (values_in-append xs ys) ∙ exact_sum-append (values_in xs) (values_in ys)

-- their number
pub tally-append : (include_null : Bool) (xs ys : List (Place × AnyValue)) → tally include_null (xs ++ ys) ≡ tally include_null xs + tally include_null ys
tally-append true xs ys = length-append xs ys
tally-append false xs ys = ap length (present_in-append xs ys) ∙ length-append (present (values_in xs)) (present (values_in ys))

-- ---- another order

-- the values of entries in another order
values_in-moved : (xs ys : List (Place × AnyValue)) → IsPermutation xs ys → IsPermutation (values_in xs) (values_in ys)
values_in-moved xs ys moved = IsPermutation-map (λ (e : Place × AnyValue). e.1) xs ys moved

-- those that are no null
pub present_in-moved : (xs ys : List (Place × AnyValue)) → IsPermutation xs ys → IsPermutation (present (values_in xs)) (present (values_in ys))
present_in-moved xs ys moved = present-moved (values_in xs) (values_in ys) (values_in-moved xs ys moved)

-- their exact sum is the same
pub sum_in-moved : (xs ys : List (Place × AnyValue)) → IsPermutation xs ys → exact_sum (values_in xs) ≡ exact_sum (values_in ys)
sum_in-moved xs ys moved = exact_sum-moved (values_in xs) (values_in ys) (values_in-moved xs ys moved)

-- and so is their number
pub tally-moved : (include_null : Bool) (xs ys : List (Place × AnyValue)) → IsPermutation xs ys → tally include_null xs ≡ tally include_null ys
tally-moved true xs ys moved = sym (length_permutation xs ys moved)
tally-moved false xs ys moved = sym (length_permutation (present (values_in xs)) (present (values_in ys)) (present_in-moved xs ys moved))

-- ---- counts

-- no more values are counted than there are entries
pub tally-short : (include_null : Bool) (xs : List (Place × AnyValue)) → tally include_null xs ≤ length xs
tally-short true xs = omega arith
tally-short false [] = omega arith
tally-short false (e ∷ es) = let one = more e.1 (values_in es) (tally-short false es) in omega arith where
  more : (v : AnyValue) (vs : List AnyValue) → length (present vs) ≤ length es → length (present (v ∷ vs)) ≤ length es + 1
  more av.Null vs h = omega arith
  more (av.Boolean b) vs h = omega arith
  more (av.Int n) vs h = omega arith
  more (av.Text s) vs h = omega arith
