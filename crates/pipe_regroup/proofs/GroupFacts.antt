-- Groups of a query's state rows that are put in order are the regrouped rows.
use Rattle.std.proofs.Common.{◌≡◌, ◌∙◌, ℕ, ◌+◌, ◌<◌, ◌^◌, List, [], ◌∷◌, ◌++◌, map, All, refl, sym, ap, subst, arith}
use Rattle.std.specs.List.{IsDistinct}
use Rattle.std.specs.List.Sorted.{IsPermutation}
use Rattle.std.specs.Ordering.{eq_by_cmp, is_eq}
use Rattle.std.proofs.lemmas.List.Elements.{All-cons, All-filter, All-head, All-nil, All-tail}
use Rattle.std.proofs.lemmas.List.Sorted.{All-permutation, IsPermutation-map, IsPermutation-sym}
use Rattle.std.proofs.lemmas.List.Sums.{sum_by-append}
use Rattle.pipe_columns.specs.Groups.{sorted_keys}
use Rattle.pipe_columns.proofs.AscendingFacts.{any_keys, AnyKey, exact_on, sorted_sole}
use Rattle.pipe_columns.proofs.ElementFacts.{all_at, moved-has, same_elements}
use Rattle.pipe_columns.proofs.ValueOrder.{tuples_tie, tuples_total}
use Rattle.pipe_aggs.specs.HashAggs.{prototypes}
use Rattle.pipe_model.specs.Answer.{tuple_cmp}
use Rattle.pipe_model.specs.Groupable.{IsGroupable}
use Rattle.pipe_model.specs.Query.{QueryTree}
use Rattle.pipe_states.specs.Fair.{IsRowOf}
use Rattle.pipe_states.specs.Regrouped.{kept, regrouped_row, regrouped_rows, rows_with}
use Rattle.pipe_states.specs.declared.state_row.StateRow.{StateRow}
use Rattle.pipe_states.proofs.MergedFair.{sum-filter-le, sum-has}
use Rattle.pipe_regroup.specs.Rules.{all_rules}
use Rattle.pipe_regroup.specs.Groups.{AreInOrder, count_rows, with_rows}
use Rattle.pipe_regroup.proofs.HoldFacts.{AreGroups, found, group_of, groups-hold, no-groups, tuples}
use Rattle.pipe_regroup.proofs.QueryRules.{row-alone, row-is, rows-held}
use Rattle.pipe_regroup.proofs.TupleLists.{Tuple}

module _ (q : QueryTree) (g : IsGroupable q) (keep : List ℕ) where
  -- groups that rows of a query came to one by one
  pub query-groups : (rows : List StateRow) → All (IsRowOf q) rows → count_rows rows < 2 ^ 32 → AreGroups keep (all_rules (prototypes q)) rows (with_rows keep (all_rules (prototypes q)) [] rows)
  query-groups rows h few =
      groups-hold keep (all_rules (prototypes q)) rows [] rows [] refl
      (λ r m. let le = sum-has (λ (s : StateRow). s.rows) r rows m in row-alone q g keep r (all_at (IsRowOf q) rows r h m) (omega (arith, le, few)))
      (λ t some left e.
      let all : count_rows rows ≡ count_rows some + count_rows left = ap count_rows e ∙ sum_by-append (λ (s : StateRow). s.rows) some left in
      let le = sum-filter-le (λ (s : StateRow). s.rows) (λ s. is_eq (tuple_cmp (kept keep s.key) t)) some in
      rows-held q g (found keep (all_rules (prototypes q)) t some)
      (All-filter (λ (s : StateRow). is_eq (tuple_cmp (kept keep s.key) t)) (IsRowOf q) some (first_of some left (subst (All (IsRowOf q)) e h)))
      (omega (arith, all, le, few)))
      (no-groups keep (all_rules (prototypes q)))
    where
      first_of : (xs ys : List StateRow) → All (IsRowOf q) (xs ++ ys) → All (IsRowOf q) xs
      first_of [] ys a = All-nil (IsRowOf q)
      first_of (x ∷ xs) ys a = All-cons (IsRowOf q) x xs (All-head (IsRowOf q) x (xs ++ ys) a) (first_of xs ys (All-tail (IsRowOf q) x (xs ++ ys) a))

  module _ (rows groups : List StateRow) (h : All (IsRowOf q) rows) (few : count_rows rows < 2 ^ 32) (are : AreGroups keep (all_rules (prototypes q)) rows groups) where
    -- what the rows of a tuple come to
    abbrev whole : Tuple → StateRow
    whole t = regrouped_row q t (rows_with (kept keep) t rows)

    -- the group of a tuple is that
    group-is : (t : Tuple) → group_of keep (all_rules (prototypes q)) rows t ≡ whole t
    group-is t =
        let le = sum-filter-le (λ (s : StateRow). s.rows) (λ s. is_eq (tuple_cmp (kept keep s.key) t)) rows in
        row-is q g (found keep (all_rules (prototypes q)) t rows) (All-filter (λ (s : StateRow). is_eq (tuple_cmp (kept keep s.key) t)) (IsRowOf q) rows h) (omega (arith, le, few)) t

    map-is : (ts : List Tuple) → map (group_of keep (all_rules (prototypes q)) rows) ts ≡ map whole ts
    map-is [] = refl
    map-is (t ∷ ts) = λ i. group-is t i ∷ map-is ts i

    -- so the groups are those of their tuples
    groups-are : groups ≡ map whole are.tuples
    groups-are = are.groups_are ∙ map-is are.tuples

    keys-of : (ts : List Tuple) → map (λ s. s.key) (map whole ts) ≡ ts
    keys-of [] = refl
    keys-of (t ∷ ts) = ap (λ (l : List Tuple). t ∷ l) (keys-of ts)

    keys-are : map (λ s. s.key) groups ≡ are.tuples
    keys-are = ap (map (λ (s : StateRow). s.key)) groups-are ∙ keys-of are.tuples

    -- their tuples differ
    pub groups-distinct : IsDistinct (eq_by_cmp tuple_cmp) (map (λ s. s.key) groups)
    groups-distinct = subst (IsDistinct (eq_by_cmp tuple_cmp)) (sym keys-are) are.are.distinct

    -- each group is what the rows of its tuple come to
    abbrev IsWhole : StateRow → Type 0
    IsWhole s = s ≡ whole s.key

    each-whole : (ts : List Tuple) → All IsWhole (map whole ts)
    each-whole [] = All-nil IsWhole
    each-whole (t ∷ ts) = All-cons IsWhole (whole t) (map whole ts) refl (each-whole ts)

    by-keys : (ss : List StateRow) → All IsWhole ss → ss ≡ map whole (map (λ s. s.key) ss)
    by-keys [] a = refl
    by-keys (s ∷ ss) a = λ i. All-head IsWhole s ss a i ∷ by-keys ss (All-tail IsWhole s ss a) i

    -- in the order of their tuples they are the regrouped rows
    pub sorted-are : (sorted : List StateRow) → AreInOrder groups sorted → sorted ≡ regrouped_rows q (kept keep) rows
    sorted-are sorted o =
        let moved : IsPermutation are.tuples (map (λ s. s.key) sorted) =
        subst (λ (ts : List Tuple). IsPermutation ts (map (λ (s : StateRow). s.key) sorted)) keys-are (IsPermutation-map (λ (s : StateRow). s.key) groups sorted o.same) in
        let keys : map (λ s. s.key) sorted ≡ sorted_keys tuple_cmp (tuples keep (all_rules (prototypes q)) rows) =
        sorted_sole AnyKey tuple_cmp (exact_on tuple_cmp tuples_total tuples_tie) (tuples keep (all_rules (prototypes q)) rows) (map (λ s. s.key) sorted)
        (any_keys (tuples keep (all_rules (prototypes q)) rows)) (record {
          ascending = o.ascending;
          same = same_elements (map (λ s. s.key) sorted) (tuples keep (all_rules (prototypes q)) rows)
              (λ t m. are.are.from t (moved-has (map (λ s. s.key) sorted) are.tuples (IsPermutation-sym are.tuples (map (λ s. s.key) sorted) moved) t m))
              (λ t m. moved-has are.tuples (map (λ s. s.key) sorted) moved t (are.are.into t m));
        }) in
        by-keys sorted (All-permutation IsWhole groups sorted o.same (subst (All IsWhole) (sym groups-are) (each-whole are.tuples)))
        ∙ ap (map whole) keys
