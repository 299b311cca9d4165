-- Groups of state rows that come one by one are what all rows of each tuple come to.
use Rattle.std.proofs.Common.{◌≡◌, ◌∙◌, ℕ, ◌+◌, Bool, true, false, cond, List, [], ◌∷◌, ◌++◌, ◌⊎◌, inl, inr, map, append_assoc, append-nil, refl, sym, ap, subst, arith}
use Rattle.std.specs.List.{IsDistinct, sum_by}
use Rattle.std.specs.Ordering.{eq_by_cmp, is_eq}
use Rattle.std.proofs.lemmas.Bool.{false≢true}
use Rattle.std.proofs.lemmas.List.{map-append}
use Rattle.std.proofs.lemmas.List.Elements.{filter-append}
use Rattle.std.proofs.lemmas.List.Sums.{sum_by-append, sum_by-cons}
use Rattle.pipe_columns.proofs.ElementFacts.{Has}
use Rattle.pipe_model.specs.Answer.{tuple_cmp}
use Rattle.pipe_model.proofs.JoinFacts.{has-either, has-first, has-second}
use Rattle.pipe_states.specs.Regrouped.{greatest_place, kept, least_place, rows_with}
use Rattle.pipe_states.specs.declared.state_row.StateRow.{StateRow}
use Rattle.pipe_states.proofs.MergedFair.{into_filter}
use Rattle.pipe_states.proofs.TupleFacts.{image-of}
use Rattle.pipe_regroup.specs.declared.rule.Rule.{Rule}
use Rattle.pipe_regroup.specs.Rules.{by_rules}
use Rattle.pipe_regroup.specs.Groups.{joined_row, started, with_row, with_rows}
use Rattle.pipe_regroup.proofs.RuleJoins.{AreHeld, greatest-more, least-more, rules-join}
use Rattle.pipe_regroup.proofs.TupleLists.{put-distinct, put-from, put-keeps, put-there, put_tuple, same-is, same-itself, same-turned, same_tuple, Tuple, with_row-put}

-- what state rows of a tuple come to, by rules
abbrev pub row_by : List Rule → Tuple → List StateRow → StateRow
row_by rules tuple rows = record {
  key = tuple;
  first = least_place (map (λ r. r.first) rows);
  last = greatest_place (map (λ r. r.last) rows);
  rows = sum_by (λ r. r.rows) rows;
  results = by_rules 0 rules rows;
}

module _ (keep : List ℕ) (rules : List Rule) where
  -- the kept tuples of rows
  abbrev pub tuples : List StateRow → List Tuple
  tuples rows = map (λ r. kept keep r.key) rows

  -- the rows of a tuple
  abbrev pub found : Tuple → List StateRow → List StateRow
  found tuple rows = rows_with (kept keep) tuple rows

  -- the group of a tuple
  abbrev pub group_of : List StateRow → Tuple → StateRow
  group_of rows tuple = row_by rules tuple (found tuple rows)

  -- tuples are those of rows, each once
  pub record AreTuples (rows : List StateRow) (ts : List Tuple) : Type 0 where
    pub from : (t : Tuple) → Has t ts → Has t (tuples rows)
    pub into : (t : Tuple) → Has t (tuples rows) → Has t ts
    pub distinct : IsDistinct (eq_by_cmp tuple_cmp) ts

  -- a row more, of a tuple
  found-more : (t : Tuple) (rows : List StateRow) (r : StateRow) → found t (rows ++ r ∷ []) ≡ found t rows ++ cond (same_tuple (kept keep r.key) t) (r ∷ []) []
  found-more t rows r = filter-append (λ (s : StateRow). is_eq (tuple_cmp (kept keep s.key) t)) rows (r ∷ [])

  -- other groups stay as they are
  others-stay : (rows : List StateRow) (r : StateRow) (t : Tuple) → same_tuple t (kept keep r.key) ≡ false → group_of (rows ++ r ∷ []) t ≡ group_of rows t
  others-stay rows r t e =
      ap (row_by rules t) (found-more t rows r ∙ ap (λ (b : Bool). found t rows ++ cond b (r ∷ []) []) (same-turned t (kept keep r.key) e) ∙ append-nil (found t rows))

  -- the rows of a tuple that is that of a row are some
  some-found : (t : Tuple) (rows : List StateRow) → Has t (tuples rows) → (x : StateRow) × (xs : List StateRow) × (found t rows ≡ x ∷ xs)
  some-found t rows m =
      let one = image-of (λ (r : StateRow). kept keep r.key) t rows m in
      by one.0 (found t rows) (into_filter (λ (s : StateRow). is_eq (tuple_cmp (kept keep s.key) t)) one.0 rows one.1 (ap (λ (k : Tuple). same_tuple k t) (sym one.2) ∙ same-itself t))
    where
      by : (x : StateRow) (l : List StateRow) → Has x l → (y : StateRow) × (ys : List StateRow) × (l ≡ y ∷ ys)
      by x [] n = absurd n
      by x (y ∷ ys) n = (y, ys, refl)

  -- those of one that is none are none
  none-found : (t : Tuple) (rows : List StateRow) → (Has t (tuples rows) → ⊥) → found t rows ≡ []
  none-found t [] h = refl
  none-found t (s ∷ rows) h = by (same_tuple (kept keep s.key) t) refl (none-found t rows (λ m. h (inr m))) where
    by : (b : Bool) → same_tuple (kept keep s.key) t ≡ b → found t rows ≡ [] → cond b (s ∷ found t rows) (found t rows) ≡ []
    by true e next = absurd (h (inl (sym (same-is (kept keep s.key) t e))))
    by false e next = next

  -- a sum with one more
  sum-more : (rows : List StateRow) (r : StateRow) → sum_by (λ s. s.rows) rows + r.rows ≡ sum_by (λ s. s.rows) (rows ++ r ∷ [])
  sum-more rows r =
      let both = sum_by-append (λ (s : StateRow). s.rows) rows (r ∷ []) in
      let one = sum_by-cons (λ (s : StateRow). s.rows) r [] in
      omega arith

  -- the group of a tuple with one more row of it
  joins-found : (t : Tuple) (x : StateRow) (xs : List StateRow) (r : StateRow) → AreHeld 0 rules ((x ∷ xs) ++ r ∷ [])
      → joined_row rules (row_by rules t (x ∷ xs)) r ≡ row_by rules t ((x ∷ xs) ++ r ∷ [])
  joins-found t x xs r h = λ i. record {
    key = t;
    first = least-more x xs r i;
    last = greatest-more x xs r i;
    rows = sum-more (x ∷ xs) r i;
    results = rules-join x xs r rules 0 [] refl h i;
  }

  -- a row alone comes to itself
  abbrev pub IsAlone : StateRow → Type 0
  IsAlone r = by_rules 0 rules (r ∷ []) ≡ r.results

  starts-alone : (r : StateRow) → IsAlone r → started keep r ≡ row_by rules (kept keep r.key) (r ∷ [])
  starts-alone r alone =
      let one : r.rows ≡ sum_by (λ (s : StateRow). s.rows) (r ∷ []) = (let sum = sum_by-cons (λ (s : StateRow). s.rows) r [] in omega arith) in
      λ i. record {
        key = kept keep r.key;
        first = r.first;
        last = r.last;
        rows = one i;
        results = sym alone i;
      }

  -- ---- one more row

  module _ (rows : List StateRow) (r : StateRow) (ts : List Tuple) (are : AreTuples rows ts) (alone : IsAlone r)
      (held : (t : Tuple) → AreHeld 0 rules (found t (rows ++ r ∷ []))) where
    abbrev p : Tuple
    p = kept keep r.key

    -- the tuple of the row is found with it
    more-found : (t : Tuple) → same_tuple t (kept keep r.key) ≡ true → found t (rows ++ r ∷ []) ≡ found t rows ++ r ∷ []
    more-found t e =
        found-more t rows r
        ∙ ap (λ (b : Bool). found t rows ++ cond b (r ∷ []) []) (ap (λ (k : Tuple). same_tuple (kept keep r.key) k) (same-is t (kept keep r.key) e) ∙ same-itself (kept keep r.key))

    joins : (t : Tuple) → Has t ts → same_tuple t (kept keep r.key) ≡ true → joined_row rules (group_of rows t) r ≡ group_of (rows ++ r ∷ []) t
    joins t m e =
        let some = some-found t rows (are.from t m) in
        let all : found t (rows ++ r ∷ []) ≡ (some.0 ∷ some.1) ++ r ∷ [] = more-found t e ∙ ap (λ (l : List StateRow). l ++ r ∷ []) some.2 in
        ap (λ (l : List StateRow). joined_row rules (row_by rules t l) r) some.2
        ∙ joins-found t some.0 some.1 r (subst (AreHeld 0 rules) all (held t))
        ∙ sym (ap (row_by rules t) all)

    starts : ((t : Tuple) → Has t ts → same_tuple t (kept keep r.key) ≡ false) → started keep r ≡ group_of (rows ++ r ∷ []) (kept keep r.key)
    starts h =
        let none : found (kept keep r.key) rows ≡ [] = none-found (kept keep r.key) rows (λ m. false≢true (sym (h (kept keep r.key) (are.into (kept keep r.key) m)) ∙ same-itself (kept keep r.key))) in
        starts-alone r alone
        ∙ sym (ap (row_by rules (kept keep r.key)) (more-found (kept keep r.key) (same-itself (kept keep r.key)) ∙ ap (λ (l : List StateRow). l ++ r ∷ []) none))

    -- the groups with it
    groups-more : with_row keep rules (map (group_of rows) ts) r ≡ map (group_of (rows ++ r ∷ [])) (put_tuple (kept keep r.key) ts)
    groups-more = with_row-put keep rules r (group_of rows) (group_of (rows ++ r ∷ [])) (λ t. refl) (others-stay rows r) ts are.distinct joins starts

    -- and their tuples
    tuples-more : AreTuples (rows ++ r ∷ []) (put_tuple (kept keep r.key) ts)
    tuples-more = record {
      from = λ t m. subst (Has t) (sym split) (by t (put-from t (kept keep r.key) ts m));
      into = λ t m. back t (has-either t (tuples rows) (kept keep r.key ∷ []) (subst (Has t) split m));
      distinct = put-distinct (kept keep r.key) ts are.distinct;
    } where
      split : tuples (rows ++ r ∷ []) ≡ tuples rows ++ kept keep r.key ∷ []
      split = map-append (λ (s : StateRow). kept keep s.key) rows (r ∷ [])

      by : (t : Tuple) → Has t ts ⊎ (t ≡ kept keep r.key) → Has t (tuples rows ++ kept keep r.key ∷ [])
      by t (inl m) = has-first t (tuples rows) (kept keep r.key ∷ []) (are.from t m)
      by t (inr e) = has-second t (tuples rows) (kept keep r.key ∷ []) (inl e)

      back : (t : Tuple) → Has t (tuples rows) ⊎ Has t (kept keep r.key ∷ []) → Has t (put_tuple (kept keep r.key) ts)
      back t (inl m) = put-keeps t (kept keep r.key) ts (are.into t m)
      back t (inr (inl e)) = subst (λ (k : Tuple). Has k (put_tuple (kept keep r.key) ts)) (sym e) (put-there (kept keep r.key) ts)
      back t (inr (inr n)) = absurd n

  -- ---- many more

  -- groups are what all rows come to
  pub record AreGroups (rows groups : List StateRow) : Type 0 where
    pub tuples : List Tuple
    pub are : AreTuples rows tuples
    pub groups_are : groups ≡ map (group_of rows) tuples

  -- groups with more rows are what all rows come to
  pub groups-hold : (all done rest groups : List StateRow) → all ≡ done ++ rest → ((r : StateRow) → Has r all → IsAlone r)
      → ((t : Tuple) (some left : List StateRow) → all ≡ some ++ left → AreHeld 0 rules (found t some))
      → AreGroups done groups → AreGroups all (with_rows keep rules groups rest)
  groups-hold all done [] groups e alone held are = subst (λ (l : List StateRow). AreGroups l groups) (sym (e ∙ append-nil done)) are
  groups-hold all done (r ∷ rest) groups e alone held are =
      let next : all ≡ (done ++ r ∷ []) ++ rest = e ∙ sym (append_assoc done (r ∷ []) rest) in
      let there : Has r all = subst (Has r) (sym e) (has-second r done (r ∷ rest) (inl refl)) in
      let hold : (t : Tuple) → AreHeld 0 rules (found t (done ++ r ∷ [])) = λ t. held t (done ++ r ∷ []) rest next in
      groups-hold all (done ++ r ∷ []) rest (with_row keep rules groups r) next alone held (record {
        tuples = put_tuple (kept keep r.key) are.tuples;
        are = tuples-more done r are.tuples are.are (alone r there) hold;
        groups_are = ap (λ (l : List StateRow). with_row keep rules l r) are.groups_are ∙ groups-more done r are.tuples are.are (alone r there) hold;
      })

  -- none are what no row comes to
  pub no-groups : AreGroups [] []
  unfolding IsDistinct
  no-groups = record { tuples = []; are = record { from = λ t m. absurd m; into = λ t m. absurd m; distinct = tt }; groups_are = refl }
