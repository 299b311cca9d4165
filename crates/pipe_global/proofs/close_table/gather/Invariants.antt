use Rattle.std.proofs.Common.{◌≡◌, ◌+◌, length, vec_len}
use Rattle.std.specs.Vec.Iter.{into_iter_items}
use Rattle.pipe_global.specs.Closed.{all_faults, all_shares}
use Rattle.pipe_global.proofs.close_table.gather.Given as goal

-- the parts and amounts so far, and those that are left, make up all
abbrev pub invariant-loop-one : goal.invariant-loop-one
invariant-loop-one g l =
    (goal.iterator-loop-one g).can_next l.one-iterator
    × (goal.iterator-loop-one g).is_finite l.one-iterator
    × (l.events.parts + length (into_iter_items l.one-iterator) ≡ vec_len l.fn.shares)
    × (l.faults.parts + length (into_iter_items l.one-iterator) ≡ vec_len l.fn.shares)
    × (l.events.amount + all_shares (into_iter_items l.one-iterator) ≡ all_shares l.fn.shares.items)
    × (l.faults.amount + all_faults (into_iter_items l.one-iterator) ≡ all_faults l.fn.shares.items)
