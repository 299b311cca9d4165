-- The pieces in which overflow is sent.
use Rattle.std.specs.Prelude.{ℕ, ◌*◌, ◌/◌, List, length, take, drop, if◌then◌else◌}
use Rattle.pipe_columns.specs.Pieces.{pieces}
use Rattle.pipe_columns.specs.Row.{Row}
use Rattle.pipe_plan.specs.Overflow.{overflow}
use Rattle.pipe_plan.specs.Run.{Run}

-- a list's pieces of n, without a last one that is shorter
abbrev pub full_pieces : {A : Type 0} → ℕ → List A → List (List A)
full_pieces n xs = pieces n (take (length xs / n * n) xs)

-- what stands behind a list's full pieces of n
abbrev pub rest_of : {A : Type 0} → ℕ → List A → List A
rest_of n xs = drop (length xs / n * n) xs

-- a worker's overflow, cut by the buffer's size; while more chunks may follow, full pieces alone
abbrev pub payloads : Run → ℕ → ℕ → List (List Row)
payloads r w p =
    if r.is_open then full_pieces r.limits.buffer_size (overflow r w p)
    else pieces r.limits.buffer_size (overflow r w p)
