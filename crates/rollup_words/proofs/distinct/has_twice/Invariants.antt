use Rattle.std.proofs.Common.{◌≡◌, length}
use Rattle.rollup_words.specs.Keys.{has_twice}
use Rattle.rollup_words.proofs.distinct.has_twice.Given as goal

-- the numbers so far stand once
abbrev pub invariant-loop-first : goal.invariant-loop-first
invariant-loop-first l = has_twice l.fn.numbers ≡ has_twice l.rest

abbrev pub decreases-loop-first : goal.decreases-loop-first
decreases-loop-first l = length l.rest
