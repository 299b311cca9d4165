use Rattle.std.proofs.Common.{◌≡◌, length}
use Rattle.lavzimo_words.specs.Shown.{first_double}
use Rattle.lavzimo_words.proofs.shown.first_double.Given as goal

-- the columns so far have names of their own
abbrev pub invariant-loop-first : goal.invariant-loop-first
invariant-loop-first l = first_double l.fn.columns ≡ first_double l.rest

abbrev pub decreases-loop-first : goal.decreases-loop-first
decreases-loop-first l = length l.rest
