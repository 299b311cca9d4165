-- Groups of the state rows of a query's states.
use Rattle.std.proofs.Common.{◌≡◌, ◌∙◌, ℕ, zero, suc, ◌+◌, ◌-◌, ◌<◌, ◌≤◌, ◌^◌, nat_lt, ltb-false, le-ltb, Bool, true, false, cond, Some, None, List, [], ◌∷◌, ◌++◌, length, map, take, take_all, get_or, All, refl, sym, ap, subst, arith}
use Rattle.std.specs.List.{IsDistinct, range_with_len}
use Rattle.std.specs.Ordering.{eq_by_cmp}
use Rattle.std.proofs.lemmas.List.{append-nil, length-map}
use Rattle.std.proofs.lemmas.Grind.{flat_map-append}
use Rattle.std.proofs.lemmas.List.Elements.{All-get_or, All-weaker}
use Rattle.std.proofs.lemmas.List.Sums.{fold-append, sum_by-append, sum_by-cons}
use Rattle.pipe_aggs.specs.HashAggs.{prototypes}
use Rattle.pipe_model.specs.Answer.{tuple_cmp}
use Rattle.pipe_model.specs.Expr.{Expr}
use Rattle.pipe_model.specs.Groupable.{IsGroupable}
use Rattle.pipe_model.specs.Output.{key_types}
use Rattle.pipe_model.specs.Query.{QueryTree}
use Rattle.pipe_model.specs.Typing.{known_type}
use Rattle.pipe_states.specs.Fair.{IsFair, IsRowOf, IsStateOf}
use Rattle.pipe_states.specs.Files.{IsFairStateOf}
use Rattle.pipe_states.specs.Regrouped.{end_of, first_of, kept, merged_states, regrouped_rows, rows_of_states, with_keys}
use Rattle.pipe_states.specs.States.{StateSeen}
use Rattle.pipe_states.specs.Together.{FollowOn, total_rows}
use Rattle.pipe_states.specs.declared.state_row.StateRow.{StateRow}
use Rattle.pipe_states.proofs.GivenRows.{typed-length}
use Rattle.pipe_states.proofs.GivenStates.{kept-tuple, merged-state-of, rows-of}
use Rattle.pipe_states.proofs.MergedFair.{merged-fair}
use Rattle.pipe_states.proofs.RangeFacts.{rows-total}
use Rattle.pipe_regroup.specs.declared.row_groups.RowGroups.{RowGroups}
use Rattle.pipe_regroup.specs.declared.rule.Rule.{Rule}
use Rattle.pipe_regroup.specs.Groups.{AreInOrder, count_rows, groups_of, HasAdded, IsJoinable, with_rows}
use Rattle.pipe_regroup.specs.Regrouping.{AreGroupsBy, held_count, with_more}
use Rattle.pipe_regroup.specs.Rules.{all_rules}
use Rattle.pipe_regroup.proofs.FindFacts.{rows-count}
use Rattle.pipe_regroup.proofs.GroupFacts.{groups-distinct, query-groups, sorted-are}
use Rattle.pipe_regroup.proofs.KeptFacts.{kept-all, regrouped-agree}
use Rattle.pipe_regroup.proofs.QueryRules.{results-width}

module _ (q : QueryTree) where
  -- a state row of a query has a value for each key
  key-length : (r : StateRow) → IsRowOf q r → length r.key ≡ length q.keys
  key-length r h = typed-length (key_types q) r.key h.key.of_types ∙ length-map q.keys (λ (e : Expr). known_type e q.schema)

  module _ (g : IsGroupable q) (keep : List ℕ) (k : All (λ i. i < length q.keys) keep) where
    -- a state row of a query can join the groups by some keys
    row-joinable : (r : StateRow) → IsRowOf q r → IsJoinable keep (key_types (with_keys q keep)) (all_rules (prototypes q)) r
    row-joinable r h = record {
      within = All-weaker (λ (i : ℕ). i < length q.keys) (λ i. i < length r.key) (λ i lt. let same = key-length r h in omega (arith, lt, same)) keep k;
      typed = (kept-tuple q keep r.key h.key k).of_types;
      results = results-width q g r h;
    }

    module _ (a : RowGroups) (by : AreGroupsBy q keep a) where
      -- so do those of a state
      pub rows-joinable : (rows : List StateRow) → All (IsRowOf q) rows → All (IsJoinable a.keep.items a.types.items a.rules.items) rows
      rows-joinable rows h =
          All-weaker (IsRowOf q) (IsJoinable a.keep.items a.types.items a.rules.items) (λ r m. subst (λ (ks : List ℕ). IsJoinable ks a.types.items a.rules.items r) (sym by.kept)
          (subst (λ (ts : _). IsJoinable keep ts a.rules.items r) (sym by.types) (subst (λ (rs : List Rule). IsJoinable keep (key_types (with_keys q keep)) rs r) (sym by.rules) (row-joinable r m)))) rows h

  -- ---- states one by one

  -- groups are those of the rows of states
  pub record AreOfStates (keep : List ℕ) (states : List StateSeen) (a : RowGroups) : Type 0 where
    pub by : AreGroupsBy q keep a
    pub groups_are : groups_of a ≡ with_rows keep a.rules.items [] (rows_of_states states)

  -- the rows of states and of one more
  pub rows-push : (states : List StateSeen) (s : StateSeen) → rows_of_states (states ++ s ∷ []) ≡ rows_of_states states ++ s.rows
  rows-push states s = flat_map-append (λ (x : StateSeen). x.rows) states (s ∷ []) ∙ ap (λ (l : List StateRow). rows_of_states states ++ l) (append-nil s.rows)

  -- with one state more
  pub of-more : (keep : List ℕ) (states : List StateSeen) (s : StateSeen) (a new : RowGroups) → AreOfStates keep states a → HasAdded a new s.rows → AreOfStates keep (states ++ s ∷ []) new
  of-more keep states s a new are added = record {
    by = record {
      kept = ap (λ v. v.items) added.keep ∙ are.by.kept;
      types = ap (λ v. v.items) added.types ∙ are.by.types;
      rules = ap (λ v. v.items) added.rules ∙ are.by.rules;
      found = added.found;
    };
    groups_are =
        added.groups
        ∙ (λ i. with_rows (are.by.kept i) a.rules.items (are.groups_are i) s.rows)
        ∙ sym (ap (with_rows keep a.rules.items []) (rows-push states s) ∙ fold-append _ [] (rows_of_states states) s.rows)
        ∙ (λ i. with_rows keep (sym added.rules i).items [] (rows_of_states (states ++ s ∷ [])));
  }

  -- they are of as many rows
  pub count-of : (keep : List ℕ) (states : List StateSeen) (a : RowGroups) → AreOfStates keep states a → count_rows (groups_of a) ≡ total_rows states
  count-of keep states a are =
      let sum = rows-count keep a.rules.items [] (rows_of_states states) in
      let total = rows-total states in
      ap count_rows are.groups_are ∙ (omega (arith, sum, total))

  -- ---- in the end

  module _ (g : IsGroupable q) (keep : List ℕ) (states : List StateSeen) (h : All (IsStateOf q) states) (few : total_rows states < 2 ^ 32) (a : RowGroups) (are : AreOfStates keep states a) where
    abbrev rows : List StateRow
    rows = rows_of_states states

    rows-few : count_rows (rows_of_states states) < 2 ^ 32
    rows-few = let total = rows-total states in omega (arith, total, few)

    groups-are : groups_of a ≡ with_rows keep (all_rules (prototypes q)) [] (rows_of_states states)
    groups-are = are.groups_are ∙ ap (λ (rs : List Rule). with_rows keep rs [] (rows_of_states states)) are.by.rules

    -- the tuples of the groups differ
    pub tuples-differ : IsDistinct (eq_by_cmp tuple_cmp) (map (λ s. s.key) (groups_of a))
    tuples-differ =
        subst (λ (gs : List StateRow). IsDistinct (eq_by_cmp tuple_cmp) (map (λ s. s.key) gs)) (sym groups-are)
        (groups-distinct q g keep (rows_of_states states) (with_rows keep (all_rules (prototypes q)) [] (rows_of_states states)) (rows-of q states h) rows-few
        (query-groups q g keep (rows_of_states states) (rows-of q states h) rows-few))

    -- in order they are the regrouped rows
    pub in-order : (sorted : List StateRow) → AreInOrder (groups_of a) sorted → sorted ≡ regrouped_rows q (kept keep) (rows_of_states states)
    in-order sorted o =
        sorted-are q g keep (rows_of_states states) (with_rows keep (all_rules (prototypes q)) [] (rows_of_states states)) (rows-of q states h) rows-few
        (query-groups q g keep (rows_of_states states) (rows-of q states h) rows-few) sorted (subst (λ (gs : List StateRow). AreInOrder gs sorted) groups-are o)

  -- by all keys they are the merged rows
  pub whole-rows : (rows : List StateRow) → All (IsRowOf q) rows → regrouped_rows q (kept (range_with_len 0 (length q.keys))) rows ≡ regrouped_rows q (λ key. key) rows
  whole-rows rows h =
      regrouped-agree q (kept (range_with_len 0 (length q.keys))) (λ key. key) rows
      (All-weaker (IsRowOf q) (λ r. kept (range_with_len 0 (length q.keys)) r.key ≡ r.key) (λ r m. kept-all r.key (length q.keys) (key-length r m)) rows h)

-- ---- states in a list

-- states up to one of them are of no more rows than all
pub total-below : (states : List StateSeen) (i : ℕ) (s : StateSeen) → i < length states → s ≡ get_or states i s → total_rows (take i states) + count_rows s.rows ≤ total_rows states
total-below [] i s lt e = absurd (omega (arith, lt))
total-below (x ∷ states) zero s lt e =
    let sum = sum_by-cons (λ (t : StateSeen). count_rows t.rows) x states in let same = ap (λ (t : StateSeen). count_rows t.rows) e in omega arith
total-below (x ∷ states) (suc i) s lt e =
    let sum = sum_by-cons (λ (t : StateSeen). count_rows t.rows) x states in
    let front = sum_by-cons (λ (t : StateSeen). count_rows t.rows) x (take i states) in
    let rest = total-below states i s (omega (arith, lt)) e in
    omega arith

module _ (q : QueryTree) where
  -- the rows of one of the states of a query are state rows of it
  pub state-at : (states : List StateSeen) (i : ℕ) (s : StateSeen) → i < length states → s ≡ get_or states i s → All (IsStateOf q) states → All (IsRowOf q) s.rows
  state-at states i s lt e h = subst (λ (t : StateSeen). All (IsRowOf q) t.rows) (sym e) (All-get_or (IsStateOf q) states i s lt h)

  -- behind the last state the groups are those of all
  pub all-states : (keep : List ℕ) (states : List StateSeen) (i : ℕ) (a : RowGroups) → length states ≤ i → AreOfStates q keep (take i states) a → AreOfStates q keep states a
  all-states keep states i a past are = subst (λ (l : List StateSeen). AreOfStates q keep l a) (take_all i states past) are

-- ---- fair states merged

-- where states end, as the last of them tells
pub last-end : (states : List StateSeen) (s : StateSeen) → 1 ≤ length states → s ≡ get_or states (length states - 1) s → end_of states ≡ s.end
last-end [] s some e = absurd (omega (arith, some))
last-end (x ∷ []) s some e = ap (λ (t : StateSeen). t.end) (sym e)
last-end (x ∷ y ∷ states) s some e =
    last-end (y ∷ states) s (omega arith) (e ∙ ap (λ (n : ℕ). get_or (x ∷ y ∷ states) n s) {x = length (x ∷ y ∷ states) - 1} {y = suc (length (y ∷ states) - 1)} (omega arith))

-- and where they begin, as the first
pub first-first : (states : List StateSeen) (s : StateSeen) → 1 ≤ length states → s ≡ get_or states 0 s → first_of states ≡ s.first
first-first [] s some e = absurd (omega (arith, some))
first-first (x ∷ states) s some e = ap (λ (t : StateSeen). t.first) (sym e)

-- a number that is held, with more
pub held-more : (a n : ℕ) → with_more (held_count a) n ≡ held_count (a + n)
held-more a n = by (nat_lt a (2 ^ 32)) refl where
  by : (b : Bool) → nat_lt a (2 ^ 32) ≡ b → with_more (cond b (Some a) None) n ≡ held_count (a + n)
  by true f = refl
  by false f =
      let past = ltb-false a (2 ^ 32) f in
      ap (λ (b : Bool). cond b (Some (a + n)) None) {x = false} {y = nat_lt (a + n) (2 ^ 32)} (sym (le-ltb (a + n) (2 ^ 32) (omega (arith, past))))

-- states and one more are of its rows more
pub total-more : (states : List StateSeen) (s : StateSeen) → total_rows (states ++ s ∷ []) ≡ total_rows states + count_rows s.rows
total-more states s = sum_by-append (λ (t : StateSeen). count_rows t.rows) states (s ∷ []) ∙ ap (λ (n : ℕ). total_rows states + n) (sum_by-cons (λ (t : StateSeen). count_rows t.rows) s [] ∙ plus (count_rows s.rows)) where
  plus : (n : ℕ) → n + 0 ≡ n
  plus n = omega arith

module _ (q : QueryTree) (states : List StateSeen) (some : 1 ≤ length states) where
  -- the merged state is the range from the first state to the last, with the merged rows
  pub merged-are : (a b : StateSeen) (first end : ℕ) (all : List StateRow) → a ≡ get_or states 0 a → b ≡ get_or states (length states - 1) b
      → first ≡ a.first → end ≡ b.end → all ≡ regrouped_rows q (λ key. key) (rows_of_states states)
      → merged_states q states ≡ record { first = first; end = end; rows = all }
  merged-are a b first end all begin stop f e r =
      let begins : first_of states ≡ first = first-first states a some begin ∙ sym f in
      let ends : end_of states ≡ end = last-end states b some stop ∙ sym e in
      λ i. record { first = begins i; end = ends i; rows = sym r i }

  -- of fair states of a query that follow on it is one
  pub merged-one : All IsFair states → All (IsStateOf q) states → FollowOn states → total_rows states < 2 ^ 32 → IsFairStateOf q (merged_states q states)
  merged-one fair of_query follow few = record { fair = merged-fair q states fair follow few; of_query = merged-state-of q states of_query few }
