use Rattle.std.proofs.Common.{rules, ◌≡◌, suc, arith, length}
use Rattle.std.specs.Vec.Iter.{into_iter_items}
use Rattle.pipe_global.proofs.close_table.close_all.Goals as goal

pub loop-lock-preserved : goal.loop-lock-preserved
loop-lock-preserved g c =
    let size : length (into_iter_items c.loop-lock.lock-iterator) ≡ suc (length (into_iter_items c.next.new.self)) = search rules in (
      tt,
      tt,
      omega (arith, c.close.ensures.parts.0, c.loop-lock.invariant.2, size),
      omega (arith, c.close.ensures.parts.1, c.loop-lock.invariant.3, size),
      omega (arith, c.close.ensures.len, c.loop-lock.invariant.4, size),
      omega (arith, c.close.ensures.capacity, c.loop-lock.invariant.5),
      c.close.ensures.closed,
      c.close.ensures.failed,
      c.close.ensures.events,
    )
