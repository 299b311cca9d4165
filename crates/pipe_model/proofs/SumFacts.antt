-- The exact sum of a list, of two lists together, and of the same list in another order.
use Rattle.std.proofs.Common.{◌≡◌, ◌∙◌, ap, ℕ, ℤ, pos, ◌+ℤ◌, List, [], ◌∷◌, ◌++◌, refl, arith}
use Rattle.std.specs.List.{fold, sum_by}
use Rattle.std.specs.List.Sorted.{IsPermutation}
use Rattle.std.proofs.lemmas.Int.{ints}
use Rattle.std.proofs.lemmas.List.Sorted.{sum_by-IsPermutation}
use Rattle.std.proofs.lemmas.List.Sums.{sum_by-append, sum_by-cons}
use Rattle.pipe_columns.specs.declared.any_value.AnyValue.{AnyValue}
use Rattle.pipe_columns.specs.declared.any_value.AnyValue.TheVariants as av
use Rattle.pipe_model.specs.Aggregate.{addend, exact_sum, present}
use borrow.Author.Differences.{up, down}

-- what a value adds, as what is above zero less what is below
abbrev above_zero : AnyValue → ℕ
above_zero v = up (addend v)

-- and what is below zero
abbrev below_zero : AnyValue → ℕ
below_zero v = down (addend v)

-- a sum and what is below zero is what is above zero
sum-parts : (vs : List AnyValue) (a : ℤ) → fold (λ (sum : ℤ) (v : AnyValue). sum +ℤ addend v) a vs +ℤ pos (sum_by below_zero vs) ≡ a +ℤ pos (sum_by above_zero vs)
sum-parts [] a = refl
sum-parts (v ∷ vs) a =
    let rest = sum-parts vs (a +ℤ addend v) in
    let low = sum_by-cons below_zero v vs in
    let high = sum_by-cons above_zero v vs in
    omega (arith, ints)

-- so it is from zero on
exact_sum-parts : (vs : List AnyValue) → exact_sum vs +ℤ pos (sum_by below_zero vs) ≡ pos (sum_by above_zero vs)
exact_sum-parts vs = let parts = sum-parts vs (pos 0) in omega (arith, ints)

-- two lists have both sums
pub exact_sum-append : (vs ws : List AnyValue) → exact_sum (vs ++ ws) ≡ exact_sum vs +ℤ exact_sum ws
exact_sum-append vs ws =
    let both = exact_sum-parts (vs ++ ws) in
    let first = exact_sum-parts vs in
    let second = exact_sum-parts ws in
    let low = sum_by-append below_zero vs ws in
    let high = sum_by-append above_zero vs ws in
    omega (arith, ints)

-- another order has the same sum
pub exact_sum-moved : (vs ws : List AnyValue) → IsPermutation vs ws → exact_sum vs ≡ exact_sum ws
exact_sum-moved vs ws moved =
    let first = exact_sum-parts vs in
    let second = exact_sum-parts ws in
    let low = sum_by-IsPermutation below_zero vs ws moved in
    let high = sum_by-IsPermutation above_zero vs ws moved in
    omega (arith, ints)

-- a sum of the values that are no null is that of all
present-sum : (vs : List AnyValue) (a : ℤ) → fold (λ (sum : ℤ) (v : AnyValue). sum +ℤ addend v) a (present vs) ≡ fold (λ (sum : ℤ) (v : AnyValue). sum +ℤ addend v) a vs
present-sum [] a = refl
present-sum (av.Null ∷ vs) a = present-sum vs a ∙ ap (λ (z : ℤ). fold (λ (sum : ℤ) (v : AnyValue). sum +ℤ addend v) z vs) (omega (arith, ints))
present-sum (av.Boolean b ∷ vs) a = present-sum vs (a +ℤ addend (av.Boolean b))
present-sum (av.Int n ∷ vs) a = present-sum vs (a +ℤ n)
present-sum (av.Text s ∷ vs) a = present-sum vs (a +ℤ pos 0)

-- nulls add nothing
pub exact_sum-present : (vs : List AnyValue) → exact_sum (present vs) ≡ exact_sum vs
exact_sum-present vs = present-sum vs (pos 0)
