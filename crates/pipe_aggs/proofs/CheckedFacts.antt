-- What holds of a query without fault.
use Rattle.std.proofs.Common.{◌≡◌, ◌∙◌, Bool, true, false, get_or, refl, sym}
use Rattle.std.specs.Prelude.{None, ◌==◌, ◌++◌, length, All}
use Rattle.std.specs.List.{list_all, list_any}
use Rattle.std.proofs.lemmas.List.Elements.{All-append, All-map}
use Rattle.std.proofs.lemmas.Option.{none-some}
use Rattle.pipe_aggs.specs.declared.query.Query.{Query}
use Rattle.pipe_aggs.specs.CheckedQuery.{HasShape, IsSound}
use Rattle.pipe_model.specs.Convertible.{convertible, unaliased}
use Rattle.pipe_aggs.specs.Faults.{adds_dates, all_exprs, field_names, first_fault, has_double, has_nodes, is_typed}
use Rattle.pipe_aggs.specs.QueryTrees.{agg_exprs, key_exprs}
use Rattle.pipe_exprs.specs.Literals.{HasUtf8Literals, HaveUtf8Literals}
use Rattle.pipe_exprs.specs.Trees.{tree}
use Rattle.pipe_exprs.proofs.TextFacts.{tree-utf8}
use Rattle.pipe_model.specs.Typing.{is_row_wise, knows_columns}
use Rattle.pipe_aggs.proofs.FaultFacts.{bad_node, double_name, ill_typed, key_has_aggregate, no_key, not_convertible, sum_of_date, unknown_column}

not_true : (b : Bool) → (b ≡ true → ⊥) → b ≡ false
not_true true h = absurd (h refl)
not_true false h = refl

not_false : (b : Bool) → (b ≡ false → ⊥) → b ≡ true
not_false true h = refl
not_false false h = absurd (h refl)

-- its fields have names of their own, it has keys, and its nodes are in the arena
pub shape_of : (q : Query) → first_fault q ≡ None → HasShape q
shape_of q h =
    let distinct : has_double (field_names q.schema) ≡ false =
    not_true (has_double (field_names q.schema)) (λ t. none-some _ (sym h ∙ double_name q t)) in
    let keyed : (length q.keys.items == 0) ≡ false =
    not_true (length q.keys.items == 0) (λ t. none-some _ (sym h ∙ no_key q distinct t)) in
    record {
      distinct = distinct;
      keyed = keyed;
      there = not_false (has_nodes q) (λ f. none-some _ (sym h ∙ bad_node q distinct keyed f));
    }

-- its literals are in UTF-8
pub texts_of : (q : Query) → HaveUtf8Literals q.arena → All HasUtf8Literals (key_exprs q ++ agg_exprs q)
texts_of q u =
    All-append HasUtf8Literals (key_exprs q) (agg_exprs q)
    (All-map HasUtf8Literals (tree q.arena) q.keys.items (λ k d l. tree-utf8 q.arena (get_or q.keys.items k d) u))
    (All-map HasUtf8Literals (tree q.arena) q.aggs.items (λ k d l. tree-utf8 q.arena (get_or q.aggs.items k d) u))

-- its expressions have types, and are what keys and aggregates may be
pub sound_of : (q : Query) → HaveUtf8Literals q.arena → first_fault q ≡ None → IsSound q
sound_of q u h =
    let s : HasShape q = shape_of q h in
    let known : all_exprs (λ e. knows_columns e q.schema) q ≡ true =
    not_false (all_exprs (λ e. knows_columns e q.schema) q) (λ f. none-some _ (sym h ∙ unknown_column q s f)) in
    let typed : is_typed q ≡ true = not_false (is_typed q) (λ f. none-some _ (sym h ∙ ill_typed q s known f)) in
    let row_wise : list_all is_row_wise (key_exprs q) ≡ true =
    not_false (list_all is_row_wise (key_exprs q)) (λ f. none-some _ (sym h ∙ key_has_aggregate q s known typed f)) in
    let kept : list_all (λ e. convertible e q.schema) (agg_exprs q) ≡ true =
    not_false (list_all (λ e. convertible e q.schema) (agg_exprs q)) (λ f. none-some _ (sym h ∙ not_convertible q s known typed row_wise f)) in
    record {
      known = known;
      typed = typed;
      row_wise = row_wise;
      kept = kept;
      texts = texts_of q u;
      dateless = not_true (list_any (λ e. adds_dates q.schema (unaliased e)) (agg_exprs q))
          (λ t. none-some _ (sym h ∙ sum_of_date q s known typed row_wise kept t));
    }
