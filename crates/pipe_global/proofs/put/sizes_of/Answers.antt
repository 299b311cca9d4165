use Rattle.std.proofs.Common.{◌≡◌, ◌∙◌, ap, arith}
use Rattle.pipe_global.proofs.Waited.{count-next}
use Rattle.pipe_global.proofs.put.sizes_of.Goals as goal

pub loop-rows-preserved : goal.loop-rows-preserved
loop-rows-preserved c =
    let next = count-next c.args.waiting.now c.loop-rows.rows-index c.rows-item.result c.loop-rows-test.true c.rows-item.is in
    omega (arith, next, c.len.ensures, c.loop-rows.invariant)
