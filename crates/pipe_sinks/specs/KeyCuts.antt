-- Of the proofs alone: the rows of a chunk, cut into runs of one key whose groups are known.
use Rattle.std.specs.Prelude.{◌≡◌, ◌-◌, ◌<◌, ℕ, List, [], ◌∷◌}
use Rattle.pipe_columns.specs.Key.{code}
use Rattle.pipe_columns.specs.Row.{Row}
use Rattle.pipe_inputs.specs.ChunkRows.{row_at}
use Rattle.pipe_sinks.specs.declared.key_runs.KeyRun.{KeyRun}
use Rattle.pipe_keyed.specs.Keyed.{IsAt}
use Rattle.pipe_sinks.specs.KeyRuns.{IsRun}
use Rattle.pipe_keyed.specs.Tables.{Table}

-- runs are the rows from one on up to another, and each has the group of its key in a table
abbrev pub AreCut : Table → List Row → ℕ → List KeyRun → ℕ → Type 0
AreCut t rows row [] to = row ≡ to
AreCut t rows row (r ∷ rs) to =
    (row < r.end) × IsRun t.shape rows row (r.end - row)
    × IsAt t.groups (code t.shape.key_types (row_at rows row).key) r.group
    × AreCut t rows r.end rs to
