-- Of the proofs alone: the first rows of a chunk, and tables that took them.
use Rattle.std.specs.Prelude.{◌≡◌, ◌++◌, ℕ, List, map}
use Rattle.std.specs.List.{range_with_len}
use Rattle.pipe_columns.specs.Frame.{FrameData}
use Rattle.pipe_columns.specs.Row.{Row}
use Rattle.pipe_model.specs.Output.{key_types}
use Rattle.pipe_model.specs.Query.{QueryTree}
use Rattle.pipe_model.specs.Rows.{row_of}
use Rattle.pipe_spill.specs.SpillRow.{spilled}
use Rattle.pipe_spill.specs.declared.spill_row.SpillRow.{SpillRow}
use Rattle.pipe_groups.specs.Holds.{Holds}
use Rattle.pipe_keyed.specs.Tables.{Table}

-- the first rows of a chunk
abbrev pub rows_to : QueryTree → ℕ → FrameData → ℕ → List Row
rows_to q i frame n = map (λ m. row_of q i frame m) (range_with_len 0 n)

-- what is spilled of them
abbrev pub spilled_first : QueryTree → ℕ → FrameData → ℕ → List SpillRow
spilled_first q i frame n = map (spilled (key_types q)) (rows_to q i frame n)

-- a table that took the first rows of a chunk
pub record TookFirstRows (q : QueryTree) (i : ℕ) (frame : FrameData) (n : ℕ) (old now : Table) : Type 0 where
  pub shape : now.shape ≡ old.shape
  pub holds : (taken : List SpillRow) → Holds old.shape.prototypes old.groups taken
      → Holds old.shape.prototypes now.groups (taken ++ spilled_first q i frame n)
