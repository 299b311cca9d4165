use Rattle.std.proofs.Common.{◌≡◌, take}
use Rattle.pipe_groups.proofs.copies.copied_fields.Given as goal

-- the fields so far
abbrev pub invariant-loop-field : goal.invariant-loop-field
invariant-loop-field l = l.copy.items ≡ take l.field-index l.fields
