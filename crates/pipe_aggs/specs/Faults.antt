-- What is wrong with a query.
use Rattle.std.specs.Prelude.{◌++◌, ◌&&◌, ◌||◌, ◌==◌, Bool, true, false, not, ℕ, ℤ, pos, List, [], ◌∷◌, length, map, nat_lt, int_lt, Option, Some, None, option_map, is_some}
use Rattle.std.specs.List.{find, list_all, list_any}
use Rattle.std.specs.Str.{bytes_eq}
use Rattle.pipe_columns.specs.declared.schema.Field.{Field}
use Rattle.pipe_aggs.specs.declared.query.Query.{Query}
use Rattle.pipe_aggs.specs.declared.query_fault.QueryFault.{QueryFault}
use Rattle.pipe_aggs.specs.declared.query_fault.QueryFault.TheVariants as fault
use Rattle.pipe_model.specs.Convertible.{convertible, unaliased}
use Rattle.pipe_model.specs.Expr.{Aggregation, Expr}
use Rattle.pipe_model.specs.Expr as expr
use Rattle.pipe_model.specs.Output.{output_schema}
use Rattle.pipe_model.specs.Query.{WrittenQuery}
use Rattle.pipe_aggs.specs.QueryTrees.{written}
use Rattle.pipe_model.specs.WrittenTree.{written_tree}
use Rattle.pipe_columns.specs.DataType.{is_date, is_input}
use Rattle.pipe_model.specs.Typing.{is_row_wise, known_type, knows_columns, type_of}

-- whether two of some names are the same
abbrev pub has_double : List (List ℕ) → Bool
has_double [] = false
has_double (n ∷ ns) = list_any (λ m. bytes_eq m n) ns || has_double ns

-- the names of fields
abbrev pub field_names : List Field → List (List ℕ)
field_names fields = map (λ f. f.name) fields

-- whether all nodes of keys and aggregates are in the arena
abbrev pub has_nodes : Query → Bool
has_nodes q = list_all (λ n. nat_lt n.0 (length q.arena)) (q.keys.items ++ q.aggs.items)

-- whether a test holds of each key and each aggregate
abbrev pub all_written : (Expr → Bool) → WrittenQuery → Bool
all_written test q = list_all test (q.keys ++ q.aggs)

-- the same of a query
abbrev pub all_exprs : (Expr → Bool) → Query → Bool
all_exprs test q = all_written test (written q)

-- whether a query has types: its inputs have no field of 128 bits, and each expression has a type
abbrev pub has_types : WrittenQuery → Bool
has_types q =
    list_all (λ f. is_input f.dtype) q.schema
    && all_written (λ e. is_some (type_of e q.schema)) q

-- the same of a query
abbrev pub is_typed : Query → Bool
is_typed q = has_types (written q)

-- whether an aggregation adds values up
abbrev pub adds : Aggregation → Bool
adds expr.sum = true
adds expr.first = false
adds expr.last = false
adds expr.mean = true
adds (expr.count include_nulls) = false
adds (expr.min propagate_nans) = false
adds (expr.max propagate_nans) = false
adds expr.median = false
adds expr.n_unique = false

-- whether an expression without alias adds dates up
abbrev pub adds_dates : List Field → Expr → Bool
adds_dates schema (expr.aggregate a e) = adds a && is_date (known_type e schema)
adds_dates schema e = false

-- whether a slice begins below the first group
abbrev pub is_negative_slice : Option (ℤ × ℕ) → Bool
is_negative_slice None = false
is_negative_slice (Some s) = int_lt s.0 (pos 0)

-- the faults in their order, and whether a query has each; whether all its nodes are in an arena is
-- told
abbrev pub faults_of : Bool → WrittenQuery → List (QueryFault × Bool)
faults_of nodes q =
    (fault.DoubleName, has_double (field_names q.schema))
    ∷ (fault.NoKey, length q.keys == 0)
    ∷ (fault.BadNode, not nodes)
    ∷ (fault.UnknownColumn, not (all_written (λ e. knows_columns e q.schema) q))
    ∷ (fault.IllTyped, not (has_types q))
    ∷ (fault.KeyHasAggregate, not (list_all is_row_wise q.keys))
    ∷ (fault.NotConvertible, not (list_all (λ e. convertible e q.schema) q.aggs))
    ∷ (fault.SumOfDate, list_any (λ e. adds_dates q.schema (unaliased e)) q.aggs)
    ∷ (fault.DoubleOutput, has_double (field_names (output_schema (written_tree q))))
    ∷ (fault.NegativeSlice, is_negative_slice q.slice) ∷ []

-- the first of some faults that is there
abbrev pub first_of : List (QueryFault × Bool) → Option QueryFault
first_of all = option_map (λ f. f.0) (find (λ f. f.1) all)

-- the first fault of a query, whose nodes are all in an arena or not
abbrev pub fault_of : Bool → WrittenQuery → Option QueryFault
fault_of nodes q = first_of (faults_of nodes q)

-- the first fault of a query
abbrev pub first_fault : Query → Option QueryFault
first_fault q = fault_of (has_nodes q) (written q)

-- the first fault of a query whose nodes are all in its arena
abbrev pub written_fault : WrittenQuery → Option QueryFault
written_fault q = fault_of true q
