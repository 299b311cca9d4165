-- Of the proofs alone: what waits as bytes, and the payloads that the bytes are.
use Rattle.std.specs.Prelude.{ℕ, List, All, map}
use Rattle.std.specs.List.{flat_map, sum_by}
use Rattle.pipe_columns.specs.declared.data_type.DataType.{DataType}
use Rattle.pipe_spill.specs.SpillRow.{joined_rows, Payload}
use Rattle.pipe_spill.specs.declared.spill_row.SpillRow.{SpillRow}
use Rattle.pipe_waiting.specs.Waiting.{AreWaiting, payload_read, Waiting}

-- the payloads that rows as bytes are
abbrev pub payloads_read : List DataType → List Waiting → List Payload
payloads_read types waiting = map (payload_read types) waiting

-- their rows, joined in order
abbrev pub rows_read : List DataType → List Waiting → List SpillRow
rows_read types waiting = joined_rows (payloads_read types waiting)

-- each is rows whose inputs have these types
abbrev pub AllWait : List DataType → List Waiting → Type 0
AllWait types waiting = All (AreWaiting types) waiting

-- their bytes, joined in order
abbrev pub bytes_waiting : List Waiting → List ℕ
bytes_waiting waiting = flat_map (λ w. w.bytes) waiting

-- how many rows they are
abbrev pub count_waiting : List Waiting → ℕ
count_waiting waiting = sum_by (λ w. w.count) waiting
