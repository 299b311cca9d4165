use Rattle.std.proofs.Common.{◌≡◌, [], replicate}
use Rattle.pipe_source.proofs.column_fill.column_fills.Given as goal

-- the columns so far are empty
abbrev pub invariant-loop : goal.invariant-loop
invariant-loop l = l.fills.items ≡ replicate l.counter []
