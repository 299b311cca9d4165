use Rattle.std.proofs.Common.{◌≡◌, map}
use Rattle.pipe_writers.specs.JsonHeads.{heads_to}
use Rattle.pipe_lines.specs.Rows.{names_of}
use Rattle.pipe_writers.proofs.json_lines.make_heads.Given as goal

-- the heads so far are made
abbrev pub invariant-loop-i : goal.invariant-loop-i
invariant-loop-i l = map (λ h. h.items) l.heads.items ≡ heads_to (names_of l.schema) l.i
