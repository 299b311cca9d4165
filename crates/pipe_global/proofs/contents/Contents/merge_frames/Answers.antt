use Rattle.std.proofs.Common.{◌∙◌, arith}
use Rattle.pipe_global.proofs.Gathered.{cause-more, gathered-more}
use Rattle.pipe_global.proofs.contents.Contents.merge_frames.Goals as goal

pub merge_last-requires-clause-can : goal.merge_last-requires-clause-can
merge_last-requires-clause-can g c = c.loop-turn.invariant.0.gathers 0 c.requires

pub returns-in-Err-clause-gathered : goal.returns-in-Err-clause-gathered
returns-in-Err-clause-gathered g c = gathered-more c.args.self.now c.loop-turn.self c.merge_last.new.self c.loop-turn.invariant.0 c.merge_last.ensures.gathered

pub returns-in-Err-clause-cause : goal.returns-in-Err-clause-cause
returns-in-Err-clause-cause g c = cause-more c.args.self.now c.loop-turn.self c.merge_last.new.self c.in-Err.error c.loop-turn.invariant.0 c.loop-turn.invariant.3 c.in-Err.ensures.cause

pub loop-turn-preserved : goal.loop-turn-preserved
loop-turn-preserved g c = (
  gathered-more c.args.self.now c.loop-turn.self c.merge_last.new.self c.loop-turn.invariant.0 c.merge_last.ensures.gathered,
  c.merge_last.ensures.waiting ∙ c.loop-turn.invariant.1,
  omega (arith, c.in-Ok.ensures.marks, c.loop-turn.invariant.2),
  c.in-Ok.ensures.calm ∙ c.loop-turn.invariant.3,
)
