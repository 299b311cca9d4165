-- Of the proofs alone: what a writer keeps to which frames go joined.
use Rattle.std.specs.Prelude.{◌≡◌, ◌++◌, ◌<◌, ◌≤◌, ◌^◌, ℕ, List, Option, IfSome}
use Rattle.pipe_columns.specs.declared.schema.Field.{Field}
use Rattle.pipe_columns.specs.Frame.{FitsSchema, FrameData}
use Rattle.pipe_lines.specs.Rows.{Row}
use Rattle.pipe_writers.specs.Vstacker.{VstackerData}

-- a writer, how many rows it is given together at least, and the rows that wait for more
pub record JoinedSeen (Writer : Type 0) : Type 0 where
  pub writer : Writer
  pub least : ℕ
  pub waiting : Option FrameData

-- what waits is joined with frames of these fields, and is too few rows to be written
pub record AwaitsMore (fields : List Field) (rows : VstackerData) : Type 0 where
  pub fits : IfSome rows.waiting (FitsSchema fields)
  pub few : IfSome rows.waiting (λ f. f.height < rows.rows)
  pub least : rows.rows ≤ 2 ^ 62

-- a writer has written a front of rows since some bytes
abbrev pub HasPutFront : (List Row → List ℕ → Type 0) → List Row → List ℕ → Type 0
HasPutFront Stands rows since =
    (done : List Row) × ((left : List Row) × Stands done since × (done ++ left ≡ rows))
