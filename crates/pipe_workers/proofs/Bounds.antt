-- How much a local table holds between turns.
use Rattle.std.proofs.Common.{◌≡◌, ◌∙◌, ◌+◌, ◌<◌, ◌≤◌, ℕ, List, length, ap, arith}
use Rattle.std.specs.Prelude.{All}
use Rattle.std.specs.List.{slice_index_or}
use Rattle.std.proofs.lemmas.List.FromFn.{get_or-map-range_with_len, length-map-range_with_len}
use Rattle.std.proofs.Math.Nat.{mod-lt}
use Rattle.pipe_model.specs.Output.{key_types}
use Rattle.pipe_plan.specs.Progress.{rows_before}
use Rattle.pipe_plan.specs.Run.{Run}
use Rattle.pipe_plan.proofs.Cutting.{length-rest}
use Rattle.pipe_plan.proofs.KeptKeys.{kept-most}
use Rattle.pipe_spill.specs.declared.spill_row.SpillRow.{SpillRow}
use Rattle.pipe_groups.specs.Groups.{count_held}
use Rattle.pipe_tables.specs.After.{spilled_to, waiting_of}
use Rattle.pipe_tables.specs.LocalTable.{Local}
use Rattle.pipe_global.specs.Shares.{SharesSeen}
use Rattle.pipe_workers.specs.Turns.{IsAfterTurns}
use Rattle.pipe_workers.specs.Workers.{TakesTurns}

-- at most one key more is held than may be
pub few-keys : (r : Run) (w n : ℕ) (t : Local) (s : SharesSeen) → TakesTurns r → IsAfterTurns r w n t s → count_held t.table.groups ≤ r.limits.spill_size + 1
few-keys r w n t s takes after = omega (arith, after.table.counted, kept-most r.limits (rows_before r w n) takes.generic)

-- each buffer is shorter than a payload
pub few-rows : (r : Run) (w n : ℕ) (t : Local) (s : SharesSeen) → TakesTurns r → IsAfterTurns r w n t s → All (λ rows. length rows < r.limits.buffer_size) t.buffers.rows
few-rows r w n t s takes after p d lt =
    let f = waiting_of r.limits (key_types r.query) (rows_before r w n) in
    let count : length t.buffers.rows ≡ r.limits.partitions = ap (λ (l : List (List SpillRow)). length l) after.table.waits ∙ length-map-range_with_len f 0 r.limits.partitions in
    let there : p < r.limits.partitions = omega (arith, lt, count) in
    let is : slice_index_or t.buffers.rows p d ≡ f p = ap (λ (l : List (List SpillRow)). slice_index_or l p d) after.table.waits ∙ get_or-map-range_with_len f 0 r.limits.partitions p p d there (omega arith) in
    let sent = spilled_to r.limits (key_types r.query) p (rows_before r w n) in
    omega (arith, ap (λ (l : List SpillRow). length l) is, length-rest r.limits.buffer_size sent takes.runnable.limits.buffer, mod-lt (length sent) takes.runnable.limits.buffer)
