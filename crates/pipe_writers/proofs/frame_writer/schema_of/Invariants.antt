use Rattle.std.proofs.Common.{◌≡◌, take}
use Rattle.pipe_columns.specs.Frame.{fields_of}
use Rattle.pipe_writers.proofs.frame_writer.schema_of.Given as goal

-- the fields of the columns so far are gathered
abbrev pub invariant-loop-column : goal.invariant-loop-column
invariant-loop-column l = l.fields.items ≡ fields_of (take l.column-index l.column-items)
