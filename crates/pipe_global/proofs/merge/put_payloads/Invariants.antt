-- All but those that are left were moved in.
use Rattle.std.specs.Vec.Iter.{into_iter_items}
use Rattle.pipe_spill.specs.SpillRow.{joined_rows}
use Rattle.pipe_global.specs.Moving.{HasMoved}
use Rattle.pipe_global.proofs.merge.put_payloads.Given as goal

abbrev pub invariant-loop-payload : goal.invariant-loop-payload
invariant-loop-payload l =
    (goal.iterator-loop-payload).can_next l.payload-iterator
    × (goal.iterator-loop-payload).is_finite l.payload-iterator
    × HasMoved l.fn.table l.table (joined_rows l.fn.waiting.items) (joined_rows (into_iter_items l.payload-iterator))
