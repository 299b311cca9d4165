use Rattle.std.proofs.Common.{◌≡◌, take}
use Rattle.pipe_writers.proofs.schema_copy.copy_schema.Given as goal

-- the fields so far are copied
abbrev pub invariant-loop-field : goal.invariant-loop-field
invariant-loop-field l = l.fields.items ≡ take l.field-index l.field-items
