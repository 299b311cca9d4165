use Rattle.std.proofs.Common.{◌≡◌, ◌++◌, take}
use Rattle.pipe_regroup.proofs.kept_fields.push_all.Given as goal

-- the fields so far
abbrev pub invariant-loop-field : goal.invariant-loop-field
invariant-loop-field l = l.fields.items ≡ l.fn.fields.items ++ take l.field-index l.all
