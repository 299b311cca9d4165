use Rattle.std.proofs.Common.{◌≡◌, length}
use Rattle.pipe_aggs.specs.Faults.{field_names, has_double}
use Rattle.pipe_aggs.proofs.doubles.has_double.Given as goal

-- the fields so far have names of their own
abbrev pub invariant-loop-first : goal.invariant-loop-first
invariant-loop-first l = has_double (field_names l.fn.fields) ≡ has_double (field_names l.rest)

abbrev pub decreases-loop-first : goal.decreases-loop-first
decreases-loop-first l = length l.rest
