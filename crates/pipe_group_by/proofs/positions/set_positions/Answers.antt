use Rattle.std.proofs.Common.{◌∙◌, arith, refl}
use Rattle.pipe_group_by.proofs.Numbering.{renumbered-all, renumbered-step}
use Rattle.pipe_group_by.proofs.positions.set_positions.Goals as goal

pub loop-number-preserved : goal.loop-number-preserved
loop-number-preserved c = renumbered-step c.args.chunks.now c.loop-number.chunks c.args.first c.loop-number.number c.index-chunks-number.result _ c.loop-number-test.true c.loop-number.invariant refl

pub returns : goal.returns
returns c = c.loop-number.invariant ∙ renumbered-all c.args.first c.loop-number.number c.args.chunks.now (omega arith)
