use Rattle.std.proofs.Common.{◌≡◌, ◌++◌, take}
use Rattle.pipe_regroup.specs.Frames.{fields_at}
use Rattle.pipe_regroup.proofs.kept_fields.push_at.Given as goal

-- the fields at the positions so far
abbrev pub invariant-loop-i : goal.invariant-loop-i
invariant-loop-i l = l.fields.items ≡ l.fn.fields.items ++ fields_at l.all (take l.i l.positions)
