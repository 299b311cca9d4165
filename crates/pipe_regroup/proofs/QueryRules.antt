-- The rules of a query's aggregates: they make of its state rows what the aggregates do.
use Rattle.std.proofs.Common.{◌≡◌, ◌∙◌, ℕ, ◌+◌, ◌<◌, ◌^◌, true, List, [], ◌∷◌, ◌++◌, length, map, All, append_assoc, length-append, refl, sym, ap, subst, arith}
use Rattle.std.specs.List.{flat_map, list_all}
use Rattle.std.proofs.lemmas.Bool.{and_parts}
use Rattle.std.proofs.lemmas.List.Elements.{All-weaker}
use Rattle.pipe_columns.specs.declared.any_value.AnyValue.{AnyValue}
use Rattle.pipe_columns.specs.declared.schema.Field.{Field}
use Rattle.pipe_columns.specs.Frame.{value_at}
use Rattle.pipe_aggs.specs.HashAggs.{function_for, prototypes}
use Rattle.pipe_model.specs.Groupable.{IsGroupable, is_suited}
use Rattle.pipe_model.specs.Output.{agg_fields, input_type}
use Rattle.pipe_model.specs.Query.{AggTree, QueryTree}
use Rattle.pipe_states.specs.Fair.{IsRowOf, result_types}
use Rattle.pipe_states.specs.Regrouped.{column_count, regrouped_aggs, regrouped_row}
use Rattle.pipe_states.specs.declared.state_row.StateRow.{StateRow}
use Rattle.pipe_states.proofs.GivenRows.{columns-length, has_rest, HasGood, typed-length}
use Rattle.pipe_states.proofs.GivenStates.{good-of}
use Rattle.pipe_states.proofs.SummaryFacts.{flat-image}
use Rattle.pipe_states.proofs.TextFacts.{types_of, value-first}
use Rattle.pipe_regroup.specs.declared.rule.Rule.{Rule}
use Rattle.pipe_regroup.specs.Rules.{all_rules, by_rule, by_rules, rules_of}
use Rattle.pipe_regroup.specs.Groups.{count_rows}
use Rattle.pipe_regroup.proofs.AggRules.{agg-alone, agg-held, agg-is, agg-width, agg_rules, AreAlone, has-agg, HasAgg}
use Rattle.pipe_regroup.proofs.HoldFacts.{IsAlone, row_by}
use Rattle.pipe_regroup.proofs.RuleJoins.{AreHeld}

-- ---- rules one behind another

by_rules-append : (j : ℕ) (xs ys : List Rule) (rows : List StateRow) → by_rules j (xs ++ ys) rows ≡ by_rules j xs rows ++ by_rules (j + length xs) ys rows
by_rules-append j [] ys rows = ap (λ (n : ℕ). by_rules n ys rows) (omega arith)
by_rules-append j (x ∷ xs) ys rows =
    ap (λ (l : List AnyValue). by_rule x j rows ∷ l)
    (by_rules-append (j + 1) xs ys rows ∙ ap (λ (n : ℕ). by_rules (j + 1) xs rows ++ by_rules n ys rows) {x = j + 1 + length xs} {y = j + length (x ∷ xs)} (omega arith))

held-append : (j : ℕ) (xs ys : List Rule) (rows : List StateRow) → AreHeld j xs rows → AreHeld (j + length xs) ys rows → AreHeld j (xs ++ ys) rows
held-append j [] ys rows h k = subst (λ (n : ℕ). AreHeld n ys rows) {x = j + 0} {y = j} (omega arith) k
held-append j (x ∷ xs) ys rows h k = (h.0, held-append (j + 1) xs ys rows h.1 (subst (λ (n : ℕ). AreHeld n ys rows) {x = j + length (x ∷ xs)} {y = j + 1 + length xs} (omega arith) k))

alone-append : (j : ℕ) (xs ys : List Rule) (r : StateRow) → AreAlone j xs r → AreAlone (j + length xs) ys r → AreAlone j (xs ++ ys) r
alone-append j [] ys r h k = subst (λ (n : ℕ). AreAlone n ys r) {x = j + 0} {y = j} (omega arith) k
alone-append j (x ∷ xs) ys r h k = (h.0, alone-append (j + 1) xs ys r h.1 (subst (λ (n : ℕ). AreAlone n ys r) {x = j + length (x ∷ xs)} {y = j + 1 + length xs} (omega arith) k))

-- ---- all aggregates

-- the rules of aggregates
abbrev rules_for : List Field → List AggTree → List Rule
rules_for schema aggs = flat_map (λ a. agg_rules a.kind (input_type schema a.input)) aggs

module _ (schema : List Field) where
  aggs-are : (aggs : List AggTree) (j : ℕ) (rows : List StateRow) → list_all (is_suited schema) aggs ≡ true → All (HasGood schema aggs j) rows → count_rows rows < 2 ^ 32
      → regrouped_aggs j schema aggs rows ≡ by_rules j (rules_for schema aggs) rows
  aggs-are [] j rows s h few = refl
  aggs-are (a ∷ aggs) j rows s h few =
      let t = input_type schema a.input in
      let parts = and_parts (is_suited schema a) (list_all (is_suited schema) aggs) s in
      let rest = aggs-are aggs (j + column_count a.kind t) rows parts.1 (All-weaker (HasGood schema (a ∷ aggs) j) (HasGood schema aggs (j + column_count a.kind t)) (λ r g. has_rest schema a aggs j r g) rows h) few in
      (λ i. agg-is j rows few a.kind t parts.0 (All-weaker (HasGood schema (a ∷ aggs) j) (HasAgg a.kind t j) (λ r g. has-agg schema a aggs j r g) rows h) i ++ rest i)
      ∙ ap (λ (n : ℕ). by_rules j (agg_rules a.kind t) rows ++ by_rules (j + n) (rules_for schema aggs) rows) (sym (agg-width a.kind t parts.0))
      ∙ sym (by_rules-append j (agg_rules a.kind t) (rules_for schema aggs) rows)

  aggs-held : (aggs : List AggTree) (j : ℕ) (rows : List StateRow) → list_all (is_suited schema) aggs ≡ true → All (HasGood schema aggs j) rows → count_rows rows < 2 ^ 32
      → AreHeld j (rules_for schema aggs) rows
  aggs-held [] j rows s h few = tt
  aggs-held (a ∷ aggs) j rows s h few =
      let t = input_type schema a.input in
      let parts = and_parts (is_suited schema a) (list_all (is_suited schema) aggs) s in
      held-append j (agg_rules a.kind t) (rules_for schema aggs) rows
      (agg-held j rows few a.kind t parts.0 (All-weaker (HasGood schema (a ∷ aggs) j) (HasAgg a.kind t j) (λ r g. has-agg schema a aggs j r g) rows h))
      (subst (λ (n : ℕ). AreHeld (j + n) (rules_for schema aggs) rows) (sym (agg-width a.kind t parts.0))
      (aggs-held aggs (j + column_count a.kind t) rows parts.1 (All-weaker (HasGood schema (a ∷ aggs) j) (HasGood schema aggs (j + column_count a.kind t)) (λ r g. has_rest schema a aggs j r g) rows h) few))

  aggs-alone : (aggs : List AggTree) (j : ℕ) (r : StateRow) → list_all (is_suited schema) aggs ≡ true → HasGood schema aggs j r → r.rows < 2 ^ 32 → AreAlone j (rules_for schema aggs) r
  aggs-alone [] j r s h few = tt
  aggs-alone (a ∷ aggs) j r s h few =
      let t = input_type schema a.input in
      let parts = and_parts (is_suited schema a) (list_all (is_suited schema) aggs) s in
      alone-append j (agg_rules a.kind t) (rules_for schema aggs) r
      (agg-alone j r few a.kind t parts.0 (has-agg schema a aggs j r h))
      (subst (λ (n : ℕ). AreAlone (j + n) (rules_for schema aggs) r) (sym (agg-width a.kind t parts.0))
      (aggs-alone aggs (j + column_count a.kind t) r parts.1 (has_rest schema a aggs j r h) few))

  aggs-width : (aggs : List AggTree) → list_all (is_suited schema) aggs ≡ true → length (rules_for schema aggs) ≡ length (types_of schema aggs)
  aggs-width [] s = refl
  aggs-width (a ∷ aggs) s =
      let t = input_type schema a.input in
      let parts = and_parts (is_suited schema a) (list_all (is_suited schema) aggs) s in
      length-append (agg_rules a.kind t) (rules_for schema aggs)
      ∙ (λ i. (agg-width a.kind t parts.0 ∙ sym (columns-length a.kind t)) i + aggs-width aggs parts.1 i)
      ∙ sym (length-append (map (λ f. f.dtype) (agg_fields [] a.kind t)) (types_of schema aggs))

-- a row whose columns are its own comes to its own results
alone-results : (j : ℕ) (rules : List Rule) (r : StateRow) (front back : List AnyValue) → length front ≡ j → r.results ≡ front ++ back → length back ≡ length rules → AreAlone j rules r
    → by_rules j rules (r ∷ []) ≡ back
alone-results j [] r front [] f e n h = refl
alone-results j [] r front (v ∷ back) f e n h = absurd (omega (arith, n))
alone-results j (k ∷ rules) r front [] f e n h = absurd (omega (arith, n))
alone-results j (k ∷ rules) r front (v ∷ back) f e n h =
    λ i.
    (h.0 ∙ ap (λ (l : List AnyValue). value_at l j) e ∙ value-first front v back j f) i
    ∷ alone-results (j + 1) rules r (front ++ v ∷ []) back (length-append front (v ∷ []) ∙ ap (λ (m : ℕ). m + 1) f) (e ∙ sym (append_assoc front (v ∷ []) back)) (omega (arith, n)) h.1 i

-- ---- a query

module _ (q : QueryTree) (g : IsGroupable q) where
  -- the rules are those of the running aggregates
  rules-are : all_rules (prototypes q) ≡ rules_for q.schema q.aggs
  rules-are = flat-image rules_of (λ (a : AggTree). function_for a.kind (input_type q.schema a.input)) q.aggs

  -- a result for each rule
  pub results-width : (r : StateRow) → IsRowOf q r → length r.results ≡ length (all_rules (prototypes q))
  results-width r h = typed-length (result_types q) r.results h.results.of_types ∙ sym (aggs-width q.schema q.aggs g.aggs) ∙ ap length (sym rules-are)

  -- a row alone comes to itself
  pub row-alone : (keep : List ℕ) (r : StateRow) → IsRowOf q r → r.rows < 2 ^ 32 → IsAlone keep (all_rules (prototypes q)) r
  row-alone keep r h few =
      alone-results 0 (all_rules (prototypes q)) r [] r.results refl refl (results-width r h)
      (subst (λ (rules : List Rule). AreAlone 0 rules r) (sym rules-are) (aggs-alone q.schema q.aggs 0 r g.aggs (good-of q r h) few))

  module _ (rows : List StateRow) (h : All (IsRowOf q) rows) (few : count_rows rows < 2 ^ 32) where
    -- rows hold their sums
    pub rows-held : AreHeld 0 (all_rules (prototypes q)) rows
    rows-held = subst (λ (rules : List Rule). AreHeld 0 rules rows) (sym rules-are) (aggs-held q.schema q.aggs 0 rows g.aggs (All-weaker (IsRowOf q) (HasGood q.schema q.aggs 0) (good-of q) rows h) few)

    -- and come to what the aggregates make of them
    pub row-is : (t : List AnyValue) → row_by (all_rules (prototypes q)) t rows ≡ regrouped_row q t rows
    row-is t =
        let same : by_rules 0 (all_rules (prototypes q)) rows ≡ regrouped_aggs 0 q.schema q.aggs rows =
        ap (λ (rules : List Rule). by_rules 0 rules rows) rules-are ∙ sym (aggs-are q.schema q.aggs 0 rows g.aggs (All-weaker (IsRowOf q) (HasGood q.schema q.aggs 0) (good-of q) rows h) few) in
        λ i. record (regrouped_row q t rows) { results = same i }
