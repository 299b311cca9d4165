-- All but those that are left were moved in.
use Rattle.std.specs.Vec.Iter.{into_iter_items}
use Rattle.pipe_global.specs.Moving.{HasMoved}
use Rattle.pipe_global.proofs.merge.put_rows.Given as goal

abbrev pub invariant-loop-row : goal.invariant-loop-row
invariant-loop-row l =
    (goal.iterator-loop-row).can_next l.row-iterator
    × (goal.iterator-loop-row).is_finite l.row-iterator
    × HasMoved l.fn.table l.table l.fn.rows.items (into_iter_items l.row-iterator)
