-- The first fault of a query, by what holds of it.
use Rattle.std.proofs.Common.{◌≡◌, ◌∙◌, Bool, true, false, List, [], ◌∷◌, refl}
use Rattle.std.specs.Prelude.{◌==◌, length, map, not, Option, Some, None, option_map}
use Rattle.std.specs.List.{find, list_all, list_any}
use Rattle.std.proofs.lemmas.List.{length-map}
use Rattle.pipe_aggs.specs.declared.query.Query.{Query}
use Rattle.pipe_aggs.specs.declared.query_fault.QueryFault.{QueryFault}
use Rattle.pipe_aggs.specs.declared.query_fault.QueryFault.TheVariants as fault
use Rattle.pipe_aggs.specs.CheckedQuery.{HasShape, IsSound}
use Rattle.pipe_model.specs.Convertible.{convertible, unaliased}
use Rattle.pipe_aggs.specs.Faults.{adds_dates, all_exprs, field_names, first_fault, has_double, has_nodes, is_negative_slice, is_typed}
use Rattle.pipe_model.specs.Output.{output_schema}
use Rattle.pipe_aggs.specs.QueryTrees.{agg_exprs, key_exprs, query_tree}
use Rattle.pipe_exprs.specs.Trees.{tree}
use Rattle.pipe_model.specs.Typing.{is_row_wise, knows_columns}

-- the first of some faults that are there
abbrev first_of_them : List (QueryFault × Bool) → Option QueryFault
first_of_them faults = option_map (λ f. f.0) (find (λ f. f.1) faults)

-- the last faults, and those from the fourth on
abbrev output_faults : Query → List (QueryFault × Bool)
output_faults q =
    (fault.DoubleOutput, has_double (field_names (output_schema (query_tree q))))
    ∷ (fault.NegativeSlice, is_negative_slice q.slice) ∷ []

abbrev expr_faults : Query → List (QueryFault × Bool)
expr_faults q =
    (fault.UnknownColumn, not (all_exprs (λ e. knows_columns e q.schema) q))
    ∷ (fault.IllTyped, not (is_typed q))
    ∷ (fault.KeyHasAggregate, not (list_all is_row_wise (key_exprs q)))
    ∷ (fault.NotConvertible, not (list_all (λ e. convertible e q.schema) (agg_exprs q)))
    ∷ (fault.SumOfDate, list_any (λ e. adds_dates q.schema (unaliased e)) (agg_exprs q))
    ∷ output_faults q

-- there are as many keys as their nodes
key_count : (q : Query) → length (map (tree q.arena) q.keys.items) ≡ length q.keys.items
key_count q = length-map q.keys.items (tree q.arena)

-- a query with names, keys and nodes has a later fault or none
pub after_shape : (q : Query) → HasShape q → first_fault q ≡ first_of_them (expr_faults q)
after_shape q s = rw (s.distinct, key_count q, s.keyed, s.there) refl

-- a query whose expressions are sound, too
pub after_exprs : (q : Query) → IsSound q → first_of_them (expr_faults q) ≡ first_of_them (output_faults q)
after_exprs q s = rw (s.known, s.typed, s.row_wise, s.kept, s.dateless) refl

pub double_name : (q : Query) → has_double (field_names q.schema) ≡ true → first_fault q ≡ Some fault.DoubleName
double_name q h = rw h refl

pub no_key : (q : Query) → has_double (field_names q.schema) ≡ false → (length q.keys.items == 0) ≡ true
    → first_fault q ≡ Some fault.NoKey
no_key q d h = rw (d, key_count q, h) refl

pub bad_node : (q : Query) → has_double (field_names q.schema) ≡ false → (length q.keys.items == 0) ≡ false → has_nodes q ≡ false
    → first_fault q ≡ Some fault.BadNode
bad_node q d k h = rw (d, key_count q, k, h) refl

pub unknown_column : (q : Query) → HasShape q → all_exprs (λ e. knows_columns e q.schema) q ≡ false
    → first_fault q ≡ Some fault.UnknownColumn
unknown_column q s h = after_shape q s ∙ rw h refl

pub ill_typed : (q : Query) → HasShape q → all_exprs (λ e. knows_columns e q.schema) q ≡ true → is_typed q ≡ false
    → first_fault q ≡ Some fault.IllTyped
ill_typed q s k h = after_shape q s ∙ rw (k, h) refl

pub key_has_aggregate : (q : Query) → HasShape q → all_exprs (λ e. knows_columns e q.schema) q ≡ true → is_typed q ≡ true
    → list_all is_row_wise (key_exprs q) ≡ false → first_fault q ≡ Some fault.KeyHasAggregate
key_has_aggregate q s k t h = after_shape q s ∙ rw (k, t, h) refl

pub not_convertible : (q : Query) → HasShape q → all_exprs (λ e. knows_columns e q.schema) q ≡ true → is_typed q ≡ true
    → list_all is_row_wise (key_exprs q) ≡ true → list_all (λ e. convertible e q.schema) (agg_exprs q) ≡ false
    → first_fault q ≡ Some fault.NotConvertible
not_convertible q s k t r h = after_shape q s ∙ rw (k, t, r, h) refl

pub sum_of_date : (q : Query) → HasShape q → all_exprs (λ e. knows_columns e q.schema) q ≡ true → is_typed q ≡ true
    → list_all is_row_wise (key_exprs q) ≡ true → list_all (λ e. convertible e q.schema) (agg_exprs q) ≡ true
    → list_any (λ e. adds_dates q.schema (unaliased e)) (agg_exprs q) ≡ true → first_fault q ≡ Some fault.SumOfDate
sum_of_date q s k t r c h = after_shape q s ∙ rw (k, t, r, c, h) refl

pub double_output : (q : Query) → HasShape q → IsSound q → has_double (field_names (output_schema (query_tree q))) ≡ true
    → first_fault q ≡ Some fault.DoubleOutput
double_output q s e h = after_shape q s ∙ after_exprs q e ∙ rw h refl

pub negative_slice : (q : Query) → HasShape q → IsSound q → has_double (field_names (output_schema (query_tree q))) ≡ false
    → is_negative_slice q.slice ≡ true → first_fault q ≡ Some fault.NegativeSlice
negative_slice q s e d h = after_shape q s ∙ after_exprs q e ∙ rw (d, h) refl

pub no_fault : (q : Query) → HasShape q → IsSound q → has_double (field_names (output_schema (query_tree q))) ≡ false
    → is_negative_slice q.slice ≡ false → first_fault q ≡ None
no_fault q s e d h = after_shape q s ∙ after_exprs q e ∙ rw (d, h) refl
