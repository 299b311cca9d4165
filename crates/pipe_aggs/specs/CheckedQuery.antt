-- A query without fault, with what is made of it once.
use Rattle.std.specs.Prelude.{◌≡◌, ◌++◌, ◌==◌, true, false, List, None, length, map}
use Rattle.std.specs.List.{All, list_all, list_any}
use Rattle.pipe_columns.specs.declared.data_type.DataType.{DataType}
use Rattle.pipe_columns.specs.declared.schema.Field.{Field}
use Rattle.pipe_running.specs.declared.function.AggregateFunction.{AggregateFunction}
use Rattle.pipe_aggs.specs.declared.hash_agg.AggInput.{AggInput}
use Rattle.pipe_aggs.specs.declared.query.Query.{Query}
use Rattle.pipe_model.specs.Convertible.{convertible, unaliased}
use Rattle.pipe_aggs.specs.Faults.{adds_dates, all_exprs, field_names, first_fault, has_double, has_nodes, is_typed}
use Rattle.pipe_aggs.specs.HashAggs.{input_of, IsThere, prototypes}
use Rattle.pipe_model.specs.Output.{input_type, key_types, output_schema}
use Rattle.pipe_aggs.specs.QueryTrees.{agg_exprs, key_exprs, query_tree}
use Rattle.pipe_exprs.specs.Literals.{HasUtf8Literals, HaveUtf8Literals}
use Rattle.pipe_model.specs.Query.{QueryTree}
use Rattle.pipe_model.specs.Typing.{is_row_wise, knows_columns}

-- a query has fields of distinct names and a key, and its nodes are in the arena
pub record HasShape (q : Query) : Type 0 where
  pub distinct : has_double (field_names q.schema) ≡ false
  pub keyed : (length q.keys.items == 0) ≡ false
  pub there : has_nodes q ≡ true

-- the expressions of a query have types, and literals in UTF-8; its keys have a value in each row,
-- and its aggregates are convertible and add no dates up
pub record IsSound (q : Query) : Type 0 where
  pub known : all_exprs (λ e. knows_columns e q.schema) q ≡ true
  pub typed : is_typed q ≡ true
  pub row_wise : list_all is_row_wise (key_exprs q) ≡ true
  pub kept : list_all (λ e. convertible e q.schema) (agg_exprs q) ≡ true
  pub dateless : list_any (λ e. adds_dates q.schema (unaliased e)) (agg_exprs q) ≡ false
  pub texts : All HasUtf8Literals (key_exprs q ++ agg_exprs q)

-- the types of what the aggregates of a query are fed
abbrev pub input_types : QueryTree → List DataType
input_types q = map (λ a. input_type q.schema a.input) q.aggs

-- a query has no fault, and literals in UTF-8; these are its output columns, the types of its keys
-- and of its inputs, what its aggregates are fed, and its running aggregates before any row
pub record IsChecked (q : Query) (output : List Field) (keys inputs : List DataType)
    (fed : List AggInput) (functions : List AggregateFunction) : Type 0 where
  pub faultless : first_fault q ≡ None
  pub texts : HaveUtf8Literals q.arena
  pub output_is : output ≡ output_schema (query_tree q)
  pub keys_are : keys ≡ key_types (query_tree q)
  pub inputs_are : inputs ≡ input_types (query_tree q)
  pub fed_are : map (input_of q.arena) fed ≡ map (λ a. a.input) (query_tree q).aggs
  pub fed_there : All (IsThere q.arena) fed
  pub functions_are : functions ≡ prototypes (query_tree q)
