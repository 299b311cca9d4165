use Rattle.std.proofs.Common.{◌≡◌, map}
use Rattle.test_plain.specs.Running.{group_seen, output_row}
use Rattle.test_plain.proofs.frame.output_rows.Given as goal

-- the rows of the groups so far
abbrev pub invariant-loop-group : goal.invariant-loop-group
invariant-loop-group l = map (λ row. row.items) l.rows.items ≡ map output_row (map group_seen l.yielded)
