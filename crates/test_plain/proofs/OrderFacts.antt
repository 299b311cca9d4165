-- The groups of a table in another order are the keys sorted by that order, each with its line.
use Rattle.std.proofs.Common.{◌≡◌, ◌∙◌, List, [], ◌∷◌, map, refl, sym, ap, subst}
use Rattle.std.specs.List.{All}
use Rattle.std.specs.List.Sorted.{IsPermutation}
use Rattle.std.specs.declared.cmp.Ordering.{Ordering}
use Rattle.std.specs.declared.cmp.Ordering.TheVariants.{Less, Equal, Greater}
use Rattle.std.specs.Ordering.{ordering_then}
use Rattle.std.specs.Cmp.{IsTotalOrder, on_total, then_total}
use Rattle.std.proofs.lemmas.List.Elements.{All-cons, All-head, All-nil, All-tail, All-weaker}
use Rattle.std.proofs.lemmas.List.Sorted.{All-permutation, IsPermutation-map}
use Rattle.pipe_columns.specs.declared.any_value.AnyValue.{AnyValue}
use Rattle.pipe_columns.specs.Groups.{IsAscending, sorted_keys}
use Rattle.pipe_columns.specs.Row.{Row}
use Rattle.pipe_columns.proofs.ValueOrder.{tuples_tie, tuples_total}
use Rattle.pipe_running.specs.declared.function.AggregateFunction.{AggregateFunction}
use Rattle.pipe_model.specs.Answer.{tuple_cmp}
use Rattle.test_plain.specs.declared.groups.Group.{Group}
use Rattle.pipe_columns.specs.StableSort.{IsSortedStably}
use Rattle.test_plain.specs.Running.{group_seen, keyed_line, Line, Table}
use Rattle.pipe_columns.proofs.AscendingFacts.{Below, sorted-ascending, sorted_anew}
use Rattle.test_plain.proofs.StableFacts.{keys-ascend, sorted-ascend}

abbrev pub key_of : Group → List AnyValue
key_of g = g.key.items

-- groups by their keys
abbrev group_cmp : Group → Group → Ordering
group_cmp g h = tuple_cmp (key_of g) (key_of h)

below-groups : (g : Group) (gs : List Group) → Below tuple_cmp (key_of g) (map key_of gs) → Below group_cmp g gs
below-groups g [] b = tt
below-groups g (h ∷ hs) b = (b.0, below-groups g hs b.1)

ascending-groups : (gs : List Group) → IsAscending tuple_cmp (map key_of gs) → IsAscending group_cmp gs
ascending-groups [] a = tt
ascending-groups (g ∷ gs) a = (below-groups g gs a.0, ascending-groups gs a.1)

module _ (prototypes : List AggregateFunction) (rs : List Row) where
  -- a group is seen as its key with the line of the key's rows
  abbrev pub IsLine : Group → Type 0
  IsLine g = group_seen g ≡ keyed_line prototypes rs (key_of g)

  line_there : (g : Group) (k : List AnyValue) → group_seen g ≡ keyed_line prototypes rs k → IsLine g
  line_there g k e = let same : key_of g ≡ k = ap (λ (p : List AnyValue × Line). p.0) e in e ∙ ap (keyed_line prototypes rs) (sym same)

  lines_there : (gs : List Group) (ks : List (List AnyValue)) → map group_seen gs ≡ map (keyed_line prototypes rs) ks → All IsLine gs
  lines_there [] ks e = All-nil IsLine
  lines_there (g ∷ gs) [] e = cc
  lines_there (g ∷ gs) (k ∷ ks) e =
      let head : group_seen g ≡ keyed_line prototypes rs k = cc e in
      let tail : map group_seen gs ≡ map (keyed_line prototypes rs) ks = cc e in
      All-cons IsLine g gs (line_there g k head) (lines_there gs ks tail)

  -- the keys of a table are those whose lines it has
  pub keys_there : (gs : List Group) (ks : List (List AnyValue)) → map group_seen gs ≡ map (keyed_line prototypes rs) ks → map key_of gs ≡ ks
  keys_there [] [] e = refl
  keys_there [] (k ∷ ks) e = cc
  keys_there (g ∷ gs) [] e = cc
  keys_there (g ∷ gs) (k ∷ ks) e =
      let head : group_seen g ≡ keyed_line prototypes rs k = cc e in
      let tail : map group_seen gs ≡ map (keyed_line prototypes rs) ks = cc e in
      let same : key_of g ≡ k = ap (λ (p : List AnyValue × Line). p.0) head in
      ap (λ (x : List AnyValue). x ∷ map key_of gs) same ∙ ap (λ (t : List (List AnyValue)). k ∷ t) (keys_there gs ks tail)

  lines_of : (gs : List Group) → All IsLine gs → map group_seen gs ≡ map (keyed_line prototypes rs) (map key_of gs)
  lines_of [] h = refl
  lines_of (g ∷ gs) h = ap (λ (p : List AnyValue × Line). p ∷ map group_seen gs) (All-head IsLine g gs h) ∙ ap (λ (t : Table). keyed_line prototypes rs (key_of g) ∷ t) (lines_of gs (All-tail IsLine g gs h))

  module _ {Y : Type 0} (rank : Group → Y) (Q : Y → Y → Ordering) (o : IsTotalOrder Q) (of_key : List AnyValue → Y) (ranks : (g : Group) → IsLine g → rank g ≡ of_key (key_of g)) where
    -- keys by their ranks, then by tuple
    abbrev pub by_rank : List AnyValue → List AnyValue → Ordering
    by_rank a b = ordering_then (Q (of_key a) (of_key b)) (tuple_cmp a b)

    by_rank_total : IsTotalOrder by_rank
    by_rank_total = then_total (on_total of_key o) tuples_total

    second_tie : (r s : Ordering) → ordering_then r s ≡ Equal → s ≡ Equal
    second_tie Less s e = cc
    second_tie Equal s e = e
    second_tie Greater s e = cc

    by_rank_tie : (a b : List AnyValue) → by_rank a b ≡ Equal → a ≡ b
    by_rank_tie a b e = tuples_tie a b (second_tie (Q (of_key a) (of_key b)) (tuple_cmp a b) e)

    -- a table that is sorted by rank has the keys by their ranks
    pub sorted_lines : (before after : List Group) (keys : List (List AnyValue)) → map group_seen before ≡ map (keyed_line prototypes rs) (sorted_keys tuple_cmp keys)
        → IsSortedStably rank Q before after → map group_seen after ≡ map (keyed_line prototypes rs) (sorted_keys by_rank keys)
    sorted_lines before after keys e s =
        let old : map key_of before ≡ sorted_keys tuple_cmp keys = keys_there before (sorted_keys tuple_cmp keys) e in
        let up : IsAscending group_cmp before = ascending-groups before (subst (IsAscending tuple_cmp) (sym old) (sorted-ascending tuple_cmp tuples_total keys)) in
        let lines : All IsLine after = All-permutation IsLine before after s.moved (lines_there before (sorted_keys tuple_cmp keys) e) in
        let ranked : All (λ g. rank g ≡ of_key (key_of g)) after = All-weaker IsLine (λ g. rank g ≡ of_key (key_of g)) ranks after lines in
        let ascend : IsAscending by_rank (map key_of after) = keys-ascend rank key_of of_key Q tuple_cmp after ranked (sorted-ascend rank Q o group_cmp before after up s.sorted s.stable) in
        let moved : IsPermutation (sorted_keys tuple_cmp keys) (map key_of after) = subst (λ (ks : List (List AnyValue)). IsPermutation ks (map key_of after)) old (IsPermutation-map key_of before after s.moved) in
        lines_of after lines ∙ ap (map (keyed_line prototypes rs)) (sorted_anew tuple_cmp by_rank tuples_total tuples_tie by_rank_total by_rank_tie keys (map key_of after) moved ascend)
