use Rattle.std.proofs.Common.{◌≡◌, ◌++◌, length}
use Rattle.lavzimo_words.specs.Joined.{joined}
use Rattle.lavzimo_words.proofs.joined.joined.Given as goal

-- the words so far, and those that are left
abbrev pub invariant-loop-joined : goal.invariant-loop-joined
invariant-loop-joined l = l.joined.items ++ joined l.rest ≡ joined l.words

abbrev pub decreases-loop-joined : goal.decreases-loop-joined
decreases-loop-joined l = length l.rest
