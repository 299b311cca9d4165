-- The rows that workers send to partitions.
use Rattle.std.specs.Prelude.{ℕ, ◌==◌, Bool, not, ◌&&◌, List, length}
use Rattle.std.specs.List.{filter, range_with_len, sum_by}
use Rattle.pipe_columns.specs.Key.{partition}
use Rattle.pipe_columns.specs.Row.{Row}
use Rattle.pipe_model.specs.Output.{key_types}
use Rattle.pipe_plan.specs.Kept.{is_kept}
use Rattle.pipe_plan.specs.Run.{of_worker, Run}

-- the partition that a row's key lies in
abbrev pub partition_of : Run → Row → ℕ
partition_of r x = partition r.limits.partitions (key_types r.query) x.key

-- whether a worker sends a row to a partition: its key lies there, and the worker doesn't keep it
abbrev pub overflows : Run → ℕ → ℕ → Row → Bool
overflows r w p x = (partition_of r x == p) && not (is_kept r w x)

-- the rows that a worker sends to a partition, in order
abbrev pub overflow : Run → ℕ → ℕ → List Row
overflow r w p = filter (overflows r w p) (of_worker r w)

-- how many rows all workers send to all partitions
abbrev pub overflow_count : Run → ℕ
overflow_count r =
    sum_by (λ w. sum_by (λ p. length (overflow r w p)) (range_with_len 0 r.limits.partitions))
    (range_with_len 0 r.limits.workers)
