use Rattle.std.proofs.Common.{◌≡◌, false, length, map}
use Rattle.std.specs.Vec.Iter.{into_iter_items, into_iter_len}
use Rattle.pipe_run.specs.Setting.{run_over}
use Rattle.pipe_run.proofs.KeptTables.{HoldsFirst}
use Rattle.pipe_run.proofs.kept_table.kept_table.Given as goal

-- the table holds what the workers so far kept
abbrev pub invariant-workers : goal.invariant-workers
invariant-workers g l =
    HoldsFirst (run_over l.begun false (map (λ c. c.value) l.chunks)) l.fn.rests.items (into_iter_items l.waiting) l.kept
    × (into_iter_len l.waiting ≡ length (into_iter_items l.waiting))

-- how many workers wait
abbrev pub decreases-workers : goal.decreases-workers
decreases-workers g l = length (into_iter_items l.waiting)
