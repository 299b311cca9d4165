-- How far a worker has come.
use Rattle.std.specs.Prelude.{◌≡◌, ◌+◌, ◌-◌, ◌/◌, ℕ, true, List, [], ◌∷◌, ◌++◌, length, slice_get, Some}
use Rattle.std.specs.List.{filter}
use Rattle.std.specs.Option.{option_map_or}
use Rattle.pipe_columns.specs.declared.data_chunk.DataChunk.{DataChunk}
use Rattle.pipe_columns.specs.Row.{Row}
use Rattle.pipe_model.specs.Rows.{chunk_rows}
use Rattle.pipe_plan.specs.Overflow.{overflows}
use Rattle.pipe_plan.specs.Payloads.{rest_of}
use Rattle.pipe_plan.specs.Plan.{events_before, full_before}
use Rattle.pipe_plan.specs.Rounds.{run_until}
use Rattle.pipe_plan.specs.Run.{is_turn_of, of_worker, Run}

-- the rows that a worker takes in its turns before position n
abbrev pub rows_before : Run → ℕ → ℕ → List Row
rows_before r w n = of_worker (run_until r n) w

-- the rows of the chunk at a position
abbrev pub turn_rows : Run → ℕ → List Row
turn_rows r i = option_map_or (λ c. chunk_rows r.query i c.frame) (slice_get r.chunks i) []

-- in its turn at a position, with some of its rows taken, a worker comes to a row
pub record IsAtRow (r : Run) (w i : ℕ) (taken : List Row) (x : Row) : Type 0 where
  pub chunk : DataChunk
  pub at : slice_get r.chunks i ≡ Some chunk
  pub turn : is_turn_of r w i ≡ true
  pub front : List Row
  pub back : List Row
  pub rows : chunk_rows r.query i chunk.frame ≡ front ++ x ∷ back
  pub taken_is : taken ≡ rows_before r w i ++ front

-- which of the rows taken a worker sends to a partition
abbrev pub sent_of : Run → ℕ → ℕ → List Row → List Row
sent_of r w p taken = filter (overflows r w p) taken

-- the row that a worker comes to fills a piece of a partition
pub record FillsPiece (r : Run) (w p i : ℕ) (taken : List Row) (x : Row) : Type 0 where
  pub at : IsAtRow r w i taken x
  pub sent : overflows r w p x ≡ true
  pub full :
      length (rest_of r.limits.buffer_size (sent_of r w p taken)) + 1 ≡ r.limits.buffer_size

-- how many events a worker has made in a partition, in its turn at a position, with some rows taken
abbrev pub events_made : Run → ℕ → ℕ → ℕ → List Row → ℕ
events_made r w p i taken =
    length (events_before r w p i)
    + (length (sent_of r w p taken) / r.limits.buffer_size - full_before r w p i)
