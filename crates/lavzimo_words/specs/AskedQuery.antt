-- The query that shown columns make, and where they stand in its answer.
use Rattle.std.specs.Prelude.{ℕ, ◌+◌, ◌++◌, ◌&&◌, ◌||◌, Bool, true, false, not, pos, List, [], ◌∷◌, map, filter, fold, codes, bytes_eq, if◌then◌else◌, None}
use Rattle.std.specs.List.{list_any}
use Rattle.pipe_columns.specs.declared.any_value.AnyValue.TheVariants as av
use Rattle.pipe_columns.specs.declared.data_type.DataType.TheVariants as dt
use Rattle.pipe_columns.specs.declared.schema.Field.{Field}
use Rattle.pipe_columns.specs.DataType.{is_date}
use Rattle.pipe_model.specs.Expr.{Expr}
use Rattle.pipe_model.specs.Expr as expr
use Rattle.pipe_model.specs.Query.{QueryTree, WrittenQuery}
use Rattle.pipe_model.specs.WrittenTree.{written_tree}
use Rattle.lavzimo_words.specs.Asked.{ColumnsSeen}
use Rattle.lavzimo_words.specs.Roles.{aggregation_of, has_halves, is_compared, is_key, is_mean, is_rows}
use Rattle.lavzimo_words.specs.declared.asked.Order.{Order}
use Rattle.lavzimo_words.specs.declared.asked.Order.TheVariants as order
use Rattle.lavzimo_words.specs.declared.role.Role.{Role}
use Rattle.lavzimo_words.specs.declared.asked_column.AskedColumn.{AskedColumn}
use Rattle.lavzimo_words.specs.declared.source.Source.{Source}
use Rattle.lavzimo_words.specs.declared.source.Source.TheVariants as source

-- whether fields have one of a name
abbrev pub has_field : List Field → List ℕ → Bool
has_field fields name = list_any (λ f. bytes_eq f.name name) fields

-- whether a column has one of fields, or none
abbrev pub is_there : List Field → AskedColumn → Bool
is_there fields c = is_rows c.role || has_field fields c.column

-- fields with that of a shown column, where they don't have it
abbrev pub with_field : List Field → AskedColumn → List Field
with_field fields c =
    if is_there fields c then fields
    else fields ++ record { name = c.column; dtype = c.dtype } ∷ []

-- the columns that are named, each once, in the order in which they are shown
abbrev pub named_fields : List AskedColumn → List Field
named_fields shown = fold with_field [] shown

-- a key
abbrev pub key_expr : AskedColumn → Expr
key_expr c = expr.alias (expr.column c.column) (c.name ++ codes "_key")

-- the keys; where there is none, all rows have one
abbrev pub keys_of : List Expr → List Expr
keys_of [] = expr.literal dt.Int64 (av.Int (pos 0)) ∷ []
keys_of (k ∷ ks) = k ∷ ks

-- whether days are compared
abbrev pub compares_days : AskedColumn → Bool
compares_days c = is_compared c.role && is_date c.dtype

-- what is summed up: days are compared by their numbers
abbrev pub input_of : AskedColumn → Expr
input_of c =
    if compares_days c then expr.cast (expr.column c.column) dt.Int32
    else expr.column c.column

-- what the rows of a group have
abbrev pub measured : AskedColumn → Expr
measured c =
    if is_rows c.role then expr.len else expr.aggregate (aggregation_of c.role) (input_of c)

-- the name of an aggregate: the halves of a mean get endings of their own
abbrev pub aggregate_name : AskedColumn → List ℕ
aggregate_name c = if has_halves c.role then c.name else c.name ++ codes "_value"

-- an aggregate
abbrev pub agg_expr : AskedColumn → Expr
agg_expr c = expr.alias (measured c) (aggregate_name c)

-- the shown columns that are keys
abbrev pub keys_in : List AskedColumn → List AskedColumn
keys_in shown = filter (λ c. is_key c.role) shown

-- the others
abbrev pub aggs_in : List AskedColumn → List AskedColumn
aggs_in shown = filter (λ c. not (is_key c.role)) shown

-- whether an order is that of first rows
abbrev pub is_first : Order → Bool
is_first order.Key = false
is_first order.First = true
is_first (order.Up place) = false
is_first (order.Down place) = false

-- the query of columns, as it is written
abbrev pub written_of : List AskedColumn → Bool → WrittenQuery
written_of shown keeps_order = record {
  schema = named_fields shown;
  keys = keys_of (map key_expr (keys_in shown));
  aggs = map agg_expr (aggs_in shown);
  slice = None;
  keeps_order = keeps_order;
}

-- the query of what words ask of columns
abbrev pub query_of_words : ColumnsSeen → QueryTree
query_of_words c = written_tree (written_of c.columns (is_first c.order))

-- how many columns of the answer a shown one has
abbrev pub width : Role → ℕ
width r = if has_halves r then 2 else 1

-- where a shown column comes from, by its first column of the answer
abbrev pub source_at : ℕ → AskedColumn → Source
source_at place c = if is_mean c.role then source.Mean place else source.Value place

-- where shown columns come from, from a column of the answer on
abbrev pub sources_from : ℕ → List AskedColumn → List Source
sources_from place [] = []
sources_from place (c ∷ rest) = source_at place c ∷ sources_from (place + width c.role) rest

-- the first place that is shown: the key that all rows have is not
abbrev pub first_place : List AskedColumn → ℕ
first_place shown = if list_any (λ c. is_key c.role) shown then 0 else 1

-- where shown columns come from
abbrev pub shown_columns : List AskedColumn → List Source
shown_columns shown = sources_from (first_place shown) shown
