-- What workers keep and partitions hold.
use Rattle.std.specs.Prelude.{ℕ, List, ◌++◌}
use Rattle.std.specs.List.{filter, flat_map, range_with_len}
use Rattle.pipe_columns.specs.Row.{Row}
use Rattle.pipe_model.specs.Partitions.{rows_in}
use Rattle.pipe_plan.specs.declared.event.PartitionEvent.{PartitionEvent}
use Rattle.pipe_plan.specs.Journals.{journal_of}
use Rattle.pipe_plan.specs.Kept.{is_kept}
use Rattle.pipe_plan.specs.Overflow.{overflow}
use Rattle.pipe_plan.specs.Replay.{joined_lists, replay, Replayed}
use Rattle.pipe_plan.specs.Run.{of_worker, Run}

-- all rows of a partition: those merged, those that wait, and those in frames
abbrev pub rows_of : Replayed → List Row
rows_of s = s.merged ++ (joined_lists s.waiting ++ joined_lists s.frames)

-- the rows that all workers send to a partition
abbrev pub sent_to : Run → ℕ → List Row
sent_to r p = flat_map (λ w. overflow r w p) (range_with_len 0 r.limits.workers)

-- a worker's rows whose keys it keeps
abbrev pub kept_rows : Run → ℕ → List Row
kept_rows r w = filter (is_kept r w) (of_worker r w)

-- the rows that all workers keep
abbrev pub all_kept : Run → List Row
all_kept r = flat_map (kept_rows r) (range_with_len 0 r.limits.workers)

-- the rows that all partitions hold after their journals
abbrev pub replayed_rows : Run → List (List PartitionEvent) → List Row
replayed_rows r journals =
    flat_map (λ p. rows_of (replay r p (journal_of journals p)))
    (range_with_len 0 r.limits.partitions)

-- the rows that workers keep, and those that partitions hold
abbrev pub rows_held : Run → List (List PartitionEvent) → List Row
rows_held r journals = all_kept r ++ replayed_rows r journals

-- the rows of partition p: those that workers keep of it, and those that it holds
abbrev pub partition_rows : Run → List (List PartitionEvent) → ℕ → List Row
partition_rows r journals p =
    rows_in r.limits.partitions r.query p (all_kept r)
    ++ rows_of (replay r p (journal_of journals p))
