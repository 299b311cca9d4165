-- As many values as turns, and there is room for all.
use Rattle.std.proofs.Common.{◌≡◌, ◌≤◌, length, vec_capacity, vec_len}
use Rattle.merge_times.proofs.waits.values_for.Given as goal

abbrev pub invariant-loop-value : goal.invariant-loop-value
invariant-loop-value l =
    (length l.values.items ≡ l._value)
    × (vec_len l.values ≡ l._value)
    × (l.fn.count ≤ vec_capacity l.values)
