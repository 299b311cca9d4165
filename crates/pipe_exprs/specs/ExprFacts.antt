-- Of the proofs alone: what is known of an expression, by what is known of the nodes that it names.
use Rattle.std.specs.Prelude.{true, false, ◌&&◌, List, Option, Some, None, option_and_then, option_map, if◌then◌else◌, is_some}
use Rattle.pipe_columns.specs.declared.data_type.DataType.{DataType}
use Rattle.pipe_columns.specs.declared.schema.Field.{Field}
use Rattle.pipe_columns.specs.AnyValue.{fits}
use Rattle.pipe_columns.specs.DataType.{is_castable, is_input}
use Rattle.pipe_exprs.specs.declared.expression.AExpr.{AExpr}
use Rattle.pipe_exprs.specs.declared.expression.AExpr.TheVariants as ax
use Rattle.pipe_exprs.specs.declared.facts.NodeFacts.{NodeFacts}
use Rattle.pipe_exprs.specs.NodeFacts.{facts_at, len_facts}
use Rattle.pipe_exprs.specs.Trees.{aggregation, agg_input}
use Rattle.pipe_model.specs.Typing.{aggregate_type, both, field_named, operator_type, shared_type, where_boolean}

-- the type of a cast
abbrev pub cast_type : Option DataType → DataType → Option DataType
cast_type from t =
    option_and_then (λ u. if is_castable u && is_castable t then Some t else None) from

-- what is known of an expression, by what is known of the nodes that it names
abbrev pub expr_facts : List Field → List NodeFacts → AExpr → NodeFacts
expr_facts schema known (ax.Column name) = record {
  dtype = option_map (λ f. f.dtype) (field_named name schema);
  knows_columns = is_some (field_named name schema);
  row_wise = true;
}
expr_facts schema known (ax.Literal t v) = record {
  dtype = if is_input t && fits v t then Some t else None;
  knows_columns = true;
  row_wise = true;
}
expr_facts schema known (ax.Cast e t) = record {
  dtype = cast_type (facts_at known e).dtype t;
  knows_columns = (facts_at known e).knows_columns;
  row_wise = (facts_at known e).row_wise;
}
expr_facts schema known (ax.BinaryExpr l o r) = record {
  dtype = both (operator_type o) (facts_at known l).dtype (facts_at known r).dtype;
  knows_columns = (facts_at known l).knows_columns && (facts_at known r).knows_columns;
  row_wise = (facts_at known l).row_wise && (facts_at known r).row_wise;
}
expr_facts schema known (ax.Ternary p t f) = record {
  dtype = where_boolean (facts_at known p).dtype
      (both (shared_type (λ u. true)) (facts_at known t).dtype (facts_at known f).dtype);
  knows_columns = (facts_at known p).knows_columns
      && (facts_at known t).knows_columns && (facts_at known f).knows_columns;
  row_wise = (facts_at known p).row_wise
      && (facts_at known t).row_wise && (facts_at known f).row_wise;
}
expr_facts schema known (ax.Alias e name) = facts_at known e
expr_facts schema known (ax.Agg a) = record {
  dtype = option_and_then
      (λ t. if is_input t then Some (aggregate_type (aggregation a) t) else None)
      (facts_at known (agg_input a)).dtype;
  knows_columns = (facts_at known (agg_input a)).knows_columns;
  row_wise = false;
}
expr_facts schema known ax.Len = len_facts
expr_facts schema known (ax.Filter e by) = record {
  dtype = where_boolean (facts_at known by).dtype (facts_at known e).dtype;
  knows_columns = (facts_at known e).knows_columns && (facts_at known by).knows_columns;
  row_wise = false;
}
expr_facts schema known (ax.Sort e) = record {
  dtype = (facts_at known e).dtype;
  knows_columns = (facts_at known e).knows_columns;
  row_wise = false;
}
