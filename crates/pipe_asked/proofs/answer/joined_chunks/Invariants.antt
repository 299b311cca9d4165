use Rattle.pipe_asked.specs.Sources.{most_left}
use Rattle.pipe_asked.proofs.Joined.{IsJoining}
use Rattle.pipe_asked.proofs.answer.joined_chunks.Given as goal

-- the whole has what was given, and what is left comes below
abbrev pub invariant-chunks : goal.invariant-chunks
invariant-chunks g l = IsJoining (g.F.Form.is l.form) l.initial.source l.source l.whole

-- how many chunks are left
abbrev pub decreases-chunks : goal.decreases-chunks
decreases-chunks g l = most_left l.source
