use Rattle.std.proofs.Common.{◌-◌, length}
use Rattle.pipe_asked.specs.Stacking.{alone}
use Rattle.pipe_asked.proofs.Joined.{IsJoining}
use Rattle.pipe_asked.proofs.in_turn.joined_wholes.Given as goal

-- the whole has what was given, and what is left comes below
abbrev pub invariant-parts : goal.invariant-parts
invariant-parts g l = IsJoining (g.F.Form.is l.form) (alone l.initial.asked) (alone l.asked) l.whole

-- how many weren't asked
abbrev pub decreases-parts : goal.decreases-parts
decreases-parts g l = length l.asked.partitions - l.asked.given
