use Rattle.std.proofs.Common.{◌≡◌, map}
use Rattle.pipe_source.proofs.column_fill.values_of.Given as goal

-- the values of the columns so far
abbrev pub invariant-loop-fill : goal.invariant-loop-fill
invariant-loop-fill l = map (λ c. c.items) l.columns.items ≡ l.yielded
