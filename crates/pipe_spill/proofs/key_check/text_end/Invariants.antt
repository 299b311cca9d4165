-- The bytes so far are the escaped form of a text.
use Rattle.std.proofs.Common.{◌-◌, length}
use Rattle.pipe_spill.proofs.TextEnd.{IsScanned}
use Rattle.pipe_spill.proofs.key_check.text_end.Given as goal

abbrev pub invariant-loop-at : goal.invariant-loop-at
invariant-loop-at l = IsScanned l.body l.at

abbrev pub decreases-loop-at : goal.decreases-loop-at
decreases-loop-at l = length l.body - l.at
