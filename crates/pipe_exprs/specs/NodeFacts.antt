-- What a pass over an arena keeps of each node.
use Rattle.std.specs.Prelude.{true, false, List, Some, slice_get, unwrap_or}
use Rattle.pipe_columns.specs.declared.data_type.DataType.TheVariants as dt
use Rattle.pipe_columns.specs.declared.schema.Field.{Field}
use Rattle.pipe_exprs.specs.declared.expression.Node.{Node}
use Rattle.pipe_exprs.specs.declared.facts.NodeFacts.{NodeFacts}
use Rattle.pipe_model.specs.Expr.{Expr}
use Rattle.pipe_model.specs.Typing.{is_row_wise, knows_columns, type_of}

-- the type of an expression, whether it knows its columns, and whether it has a value in each row
abbrev pub facts_of : List Field → Expr → NodeFacts
facts_of schema e = record {
  dtype = type_of e schema;
  knows_columns = knows_columns e schema;
  row_wise = is_row_wise e;
}

-- what is known of the number of rows
abbrev pub len_facts : NodeFacts
len_facts = record { dtype = Some dt.UInt32; knows_columns = true; row_wise = false }

-- what is known of a node
abbrev pub facts_at : List NodeFacts → Node → NodeFacts
facts_at known n = unwrap_or (slice_get known n.0) len_facts
