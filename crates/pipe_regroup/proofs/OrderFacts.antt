-- Sorted groups are in the order of their tuples.
use Rattle.std.proofs.Common.{◌≡◌, List, [], ◌∷◌, map, All, refl, ap, subst, sym}
use Rattle.std.specs.List.{IsDistinct}
use Rattle.std.specs.List.Sorted.{IsPermutation, IsSorted}
use Rattle.std.specs.declared.cmp.Ordering.{Ordering}
use Rattle.std.specs.Ordering.{eq_by_cmp, is_eq, nat_cmp, ordering_then}
use Rattle.std.specs.Cmp.{IsTotalOrder}
use Rattle.std.proofs.lemmas.Cmp.{eq_by_cmp_equiv, nat_cmp_total, on_total, then_total}
use Rattle.std.proofs.lemmas.List.Elements.{All-cons, All-nil}
use Rattle.std.proofs.lemmas.List.Sorted.{IsPermutation-map}
use Rattle.std.proofs.lemmas.Map.Keys.{IsDistinct-IsPermutation}
use mathlib.Core.List.{map-map}
use Rattle.pipe_columns.specs.declared.any_value.AnyValue.{AnyValue}
use Rattle.pipe_columns.specs.Groups.{IsAscending}
use Rattle.pipe_columns.specs.Place.{place_cmp}
use Rattle.pipe_columns.proofs.ValueOrder.{tuples_total}
use Rattle.pipe_model.specs.Answer.{tuple_cmp}
use Rattle.pipe_model.proofs.PlaceFacts.{place_total}
use Rattle.pipe_states.specs.declared.state_row.StateRow.{StateRow}
use Rattle.pipe_regroup.specs.declared.group.Group.{Group}
use Rattle.pipe_regroup.specs.Groups.{AreInOrder, group_row}
use Rattle.pipe_regroup.proofs.AscentFacts.{sorted-ascend}

-- the tuple of a group, and its results
abbrev group_key : Group → List AnyValue
group_key g = g.key.items

abbrev group_results : Group → List AnyValue
group_results g = g.results.items

-- what decides between groups of one tuple
abbrev rest_cmp : Group → Group → Ordering
rest_cmp g h = ordering_then (place_cmp g.first h.first) (ordering_then (place_cmp g.last h.last) (ordering_then (nat_cmp g.rows h.rows) (tuple_cmp (group_results g) (group_results h))))

-- the order of groups: by their tuples
abbrev pub group_cmp : Group → Group → Ordering
group_cmp g h = ordering_then (tuple_cmp (group_key g) (group_key h)) (rest_cmp g h)

group_total : IsTotalOrder group_cmp
group_total =
    then_total (on_total group_key tuples_total)
    (then_total (on_total (λ (g : Group). g.first) place_total)
    (then_total (on_total (λ (g : Group). g.last) place_total)
    (then_total (on_total (λ (g : Group). g.rows) nat_cmp_total) (on_total group_results tuples_total))))

abbrev AnyGroup : Group → Type 0
AnyGroup g = Unit {0}

any_groups : (gs : List Group) → All AnyGroup gs
any_groups [] = All-nil AnyGroup
any_groups (g ∷ gs) = All-cons AnyGroup g gs tt (any_groups gs)

-- groups whose tuples differ, sorted
pub sorted-in_order : (old new : List Group) → IsPermutation old new → IsSorted group_cmp new → IsDistinct (eq_by_cmp tuple_cmp) (map (λ g. g.key) (map group_row old)) → AreInOrder (map group_row old) (map group_row new)
sorted-in_order old new moved sorted distinct =
    let keys : (gs : List Group) → map (λ g. g.key) (map group_row gs) ≡ map group_key gs = λ gs. map-map (λ (r : StateRow). r.key) group_row gs in
    record {
      same = IsPermutation-map group_row old new moved;
      ascending = subst (IsAscending tuple_cmp) (sym (keys new))
          (sorted-ascend group_key tuple_cmp tuples_total (eq_by_cmp tuple_cmp) (λ a b e. ap is_eq e) group_cmp group_total rest_cmp AnyGroup (λ g h p q. refl) new (any_groups new) sorted
          (IsDistinct-IsPermutation (eq_by_cmp tuple_cmp) (eq_by_cmp_equiv tuples_total).symm (map group_key old) (map group_key new) (IsPermutation-map group_key old new moved)
          (subst (IsDistinct (eq_by_cmp tuple_cmp)) (keys old) distinct)));
    }
