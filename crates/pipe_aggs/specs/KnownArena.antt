-- Of the proofs alone: what is read off an arena's expressions, by what is known of their nodes.
use Rattle.std.specs.Prelude.{◌≡◌, Bool, true, false, ◌&&◌, List, Option, Some, None, map, unwrap_or}
use Rattle.pipe_columns.specs.declared.data_type.DataType.{DataType}
use Rattle.pipe_columns.specs.declared.data_type.DataType.TheVariants as dt
use Rattle.pipe_columns.specs.declared.schema.Field.{Field}
use Rattle.pipe_model.specs.Kind.{Kind}
use Rattle.pipe_model.specs.Kind as kind
use Rattle.pipe_exprs.specs.declared.expression.AExpr.{AExpr}
use Rattle.pipe_exprs.specs.declared.expression.AExpr.TheVariants as ax
use Rattle.pipe_exprs.specs.declared.facts.NodeFacts.{NodeFacts}
use Rattle.pipe_model.specs.Convertible.{keeps}
use Rattle.pipe_model.specs.Expr.{Expr, name_of}
use Rattle.pipe_aggs.specs.Faults.{adds}
use Rattle.pipe_exprs.specs.NodeFacts.{facts_at, facts_of}
use Rattle.pipe_model.specs.Output.{agg_fields, input_type}
use Rattle.pipe_model.specs.WrittenTree.{agg_tree, kept_kind}
use Rattle.pipe_exprs.specs.Trees.{aggregation, agg_input, trees}
use Rattle.pipe_columns.specs.DataType.{is_date}
use Rattle.pipe_model.specs.Typing.{known_type}

-- the expressions of an arena, and the fields of a schema
pub record KnownArena : Type 0 where
  pub exprs : List AExpr
  pub fields : List Field

-- this is known of an arena's nodes
abbrev pub IsKnown : List AExpr → List Field → List NodeFacts → Type 0
IsKnown exprs fields known = known ≡ map (facts_of fields) (trees exprs)

-- whether an expression without alias is an aggregate that can be kept
abbrev pub kept_by : List NodeFacts → Option AExpr → Bool
kept_by known None = true
kept_by known (Some (ax.Agg a)) =
    (facts_at known (agg_input a)).row_wise
    && keeps (aggregation a) (facts_at known (agg_input a)).dtype
kept_by known (Some ax.Len) = true
kept_by known (Some e) = false

-- the type of what an expression without alias is fed, where it is an aggregate
abbrev pub fed_by : List NodeFacts → Option AExpr → DataType
fed_by known (Some (ax.Agg a)) = unwrap_or (facts_at known (agg_input a)).dtype dt.UInt32
fed_by known e = dt.UInt32

-- whether an expression without alias adds dates up
abbrev pub adds_dates_by : List NodeFacts → Option AExpr → Bool
adds_dates_by known (Some (ax.Agg a)) =
    adds (aggregation a) && is_date (fed_by known (Some (ax.Agg a)))
adds_dates_by known e = false

-- the kind of aggregate that an expression without alias is
abbrev pub kind_by : Option AExpr → Kind
kind_by (Some (ax.Agg a)) = kept_kind (aggregation a)
kind_by e = kind.len

-- the output columns of an expression that is an aggregate
abbrev pub agg_columns : List Field → Expr → List Field
agg_columns schema e =
    agg_fields (agg_tree e).name (agg_tree e).kind (input_type schema (agg_tree e).input)

-- the field of a key
abbrev pub key_field : List Field → Expr → Field
key_field schema e = record { name = name_of e; dtype = known_type e schema }
