-- The payloads so far are owned, and there is room for all.
use Rattle.std.proofs.Common.{◌≡◌, ◌≤◌, length, take, vec_capacity, vec_len}
use Rattle.pipe_global.specs.Waits.{payloads_read}
use Rattle.pipe_global.proofs.merge.own_waiting.Given as goal

abbrev pub invariant-loop-waits : goal.invariant-loop-waits
invariant-loop-waits l =
    (l.payloads.items ≡ payloads_read l.types (take l.waits-index l.waiting))
    × (vec_len l.payloads ≡ l.waits-index)
    × (length l.waiting ≤ vec_capacity l.payloads)
