use Rattle.std.proofs.Common.{arith, length}
use Rattle.std.specs.Fork.{ChangesAt}
use Rattle.pipe_threads.proofs.PlaceFacts.{one-more}
use Rattle.pipe_threads.proofs.beside.in_turn.Goals as goal

pub loop-k-preserved : goal.loop-k-preserved
loop-k-preserved g c =
    let inv = c.loop-k.invariant in
    one-more (ChangesAt g.F.Fn c.args.f.now) c.args.base c.loop-k.k c.args.s.now c.loop-k.s c.index-s-k.result c.at_one.new.item (omega arith) inv.0 inv.1 inv.2 c.at_one.ensures
