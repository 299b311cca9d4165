-- The order of values is total, and only equal values tie.
use Rattle.std.proofs.Common.{◌≡◌, ℕ, ℤ, pos, Bool, true, false, List, [], refl, ap, subst}
use Rattle.std.specs.declared.cmp.Ordering.{Ordering}
use Rattle.std.specs.declared.cmp.Ordering.TheVariants.{Less, Equal, Greater}
use Rattle.std.specs.Ordering.{nat_cmp, int_cmp, bool_cmp, on, ordering_then, then_cmp}
use Rattle.std.specs.Cmp.{IsTotalOrder, on_total, then_total, nat_cmp_total, int_cmp_total, bool_cmp_total}
use Rattle.std.specs.Cmp.Lexicographic.{slice_cmp, on_texts, lists_total}
use Rattle.std.specs.FinMap.{int_cmp-IsAntisymmetric, nat_cmp-IsAntisymmetric, slice_cmp-IsAntisymmetric}
use Rattle.pipe_columns.specs.declared.any_value.AnyValue.{AnyValue}
use Rattle.pipe_columns.specs.declared.any_value.AnyValue.TheVariants as av
use Rattle.pipe_columns.specs.AnyValue.{rank, value_cmp}
use Rattle.pipe_columns.specs.Groups.{IsExactOn}
use Rattle.pipe_columns.proofs.AscendingFacts.{AnyKey, exact_on}

-- a value's part of each kind, the least where it has none
abbrev truth_of : AnyValue → Bool
truth_of av.Null = false
truth_of (av.Boolean b) = b
truth_of (av.Int n) = false
truth_of (av.Text s) = false

-- its number
abbrev number_of : AnyValue → ℤ
number_of av.Null = pos 0
number_of (av.Boolean b) = pos 0
number_of (av.Int n) = n
number_of (av.Text s) = pos 0

-- its text
abbrev text_of : AnyValue → List ℕ
text_of av.Null = []
text_of (av.Boolean b) = []
text_of (av.Int n) = []
text_of (av.Text s) = s

-- by kind, then by each part
abbrev by_parts : AnyValue → AnyValue → Ordering
by_parts = then_cmp (on rank nat_cmp) (then_cmp (on truth_of bool_cmp) (then_cmp (on number_of int_cmp) (on text_of (slice_cmp nat_cmp))))

-- a tie decides nothing
then_Equal : (r : Ordering) → ordering_then r Equal ≡ r
then_Equal Less = refl
then_Equal Equal = refl
then_Equal Greater = refl

-- that is the order of values
by_parts_is : (a b : AnyValue) → by_parts a b ≡ value_cmp a b
by_parts_is av.Null av.Null = refl
by_parts_is av.Null (av.Boolean b) = refl
by_parts_is av.Null (av.Int n) = refl
by_parts_is av.Null (av.Text s) = refl
by_parts_is (av.Boolean a) av.Null = refl
by_parts_is (av.Boolean a) (av.Boolean b) = then_Equal (bool_cmp a b)
by_parts_is (av.Boolean a) (av.Int n) = refl
by_parts_is (av.Boolean a) (av.Text s) = refl
by_parts_is (av.Int m) av.Null = refl
by_parts_is (av.Int m) (av.Boolean b) = refl
by_parts_is (av.Int m) (av.Int n) = then_Equal (int_cmp m n)
by_parts_is (av.Int m) (av.Text s) = refl
by_parts_is (av.Text r) av.Null = refl
by_parts_is (av.Text r) (av.Boolean b) = refl
by_parts_is (av.Text r) (av.Int n) = refl
by_parts_is (av.Text r) (av.Text s) = refl

-- it is total, as the order of each part is
by_parts_total : IsTotalOrder by_parts
by_parts_total = then_total (on_total rank nat_cmp_total) (then_total (on_total truth_of bool_cmp_total) (then_total (on_total number_of int_cmp_total) (on_texts text_of)))

-- values are in a total order
pub value_cmp_total : IsTotalOrder value_cmp
value_cmp_total = subst IsTotalOrder (λ i a b. by_parts_is a b i) by_parts_total

-- truths that tie are the same
bool_ties : (a b : Bool) → bool_cmp a b ≡ Equal → a ≡ b
bool_ties true true e = refl
bool_ties true false e = cc
bool_ties false true e = cc
bool_ties false false e = refl

-- values that tie are the same
pub value_cmp-IsAntisymmetric : (a b : AnyValue) → value_cmp a b ≡ Equal → a ≡ b
value_cmp-IsAntisymmetric av.Null av.Null e = refl
value_cmp-IsAntisymmetric av.Null (av.Boolean b) e = cc
value_cmp-IsAntisymmetric av.Null (av.Int n) e = cc
value_cmp-IsAntisymmetric av.Null (av.Text s) e = cc
value_cmp-IsAntisymmetric (av.Boolean a) av.Null e = cc
value_cmp-IsAntisymmetric (av.Boolean a) (av.Boolean b) e = ap av.Boolean (bool_ties a b e)
value_cmp-IsAntisymmetric (av.Boolean a) (av.Int n) e = cc
value_cmp-IsAntisymmetric (av.Boolean a) (av.Text s) e = cc
value_cmp-IsAntisymmetric (av.Int m) av.Null e = cc
value_cmp-IsAntisymmetric (av.Int m) (av.Boolean b) e = cc
value_cmp-IsAntisymmetric (av.Int m) (av.Int n) e = ap av.Int (int_cmp-IsAntisymmetric m n e)
value_cmp-IsAntisymmetric (av.Int m) (av.Text s) e = cc
value_cmp-IsAntisymmetric (av.Text r) av.Null e = cc
value_cmp-IsAntisymmetric (av.Text r) (av.Boolean b) e = cc
value_cmp-IsAntisymmetric (av.Text r) (av.Int n) e = cc
value_cmp-IsAntisymmetric (av.Text r) (av.Text s) e = ap av.Text (slice_cmp-IsAntisymmetric nat_cmp-IsAntisymmetric r s e)

-- tuples are in a total order
pub tuples_total : IsTotalOrder (slice_cmp value_cmp)
tuples_total = lists_total value_cmp_total

-- tuples that tie are the same
pub tuples_tie : (a b : List AnyValue) → slice_cmp value_cmp a b ≡ Equal → a ≡ b
tuples_tie a b e = slice_cmp-IsAntisymmetric value_cmp-IsAntisymmetric a b e

-- the order of tuples is one of all tuples, in which only a tuple itself ties with it
pub tuples_exact : IsExactOn AnyKey (slice_cmp value_cmp)
tuples_exact = exact_on (slice_cmp value_cmp) tuples_total tuples_tie
