use Rattle.std.proofs.Common.{◌≡◌, take}
use Rattle.pipe_columns.specs.Frame.{fields_of}
use Rattle.pipe_exprs.proofs.types.fields_of.Given as goal

-- the fields of the columns so far
abbrev pub invariant-loop-column : goal.invariant-loop-column
invariant-loop-column l = l.fields.items ≡ fields_of (take l.column-index l.columns)
