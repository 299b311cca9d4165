-- The rows of a turn, one by one.
use Rattle.std.proofs.Common.{◌≡◌, ◌∙◌, ◌+◌, ◌<◌, ◌^◌, ℕ, suc, List, [], ◌∷◌, ◌++◌, length, take, drop, refl, sym, ap, arith, append_assoc, length-append}
use Rattle.std.proofs.Math.Seq.{drop-cons}
use Rattle.std.proofs.lemmas.List.{length-take-le, take-append-drop, take_more}
use Rattle.std.proofs.lemmas.Option.{unwrap_or-slice_get}
use Rattle.pipe_columns.specs.Row.{Row}
use Rattle.pipe_plan.specs.Progress.{IsAtRow, rows_before}
use Rattle.pipe_plan.specs.Run.{Run}
use Rattle.pipe_inputs.specs.ChunkRows.{no_row, row_at}
use Rattle.pipe_tables.specs.LocalTable.{Local}
use Rattle.pipe_global.specs.Shares.{SharesSeen}
use Rattle.pipe_workers.specs.declared.stop.WorkerStop.TheVariants as stop
use Rattle.pipe_workers.specs.Steps.{AreRowsOfTurn, IsInTurn, taken_with}
use Rattle.pipe_workers.specs.Turns.{AreSharesAtStop}
use Rattle.pipe_workers.specs.Workers.{TakesTurns}
use Rattle.pipe_workers.proofs.AtRows.{taken-few}
use Rattle.pipe_workers.proofs.Standing.{turn-fronts}

-- rows up to one, this one, and those behind
split-at : (rows : List Row) (n : ℕ) → n < length rows → rows ≡ take n rows ++ row_at rows n ∷ drop (n + 1) rows
split-at rows n lt =
    sym (take-append-drop n rows)
    ∙ ap (λ (l : List Row). take n rows ++ l)
    (drop-cons rows n no_row lt
    ∙ ap (λ (y : Row). y ∷ drop (suc n) rows) (sym (unwrap_or-slice_get rows n no_row))
    ∙ ap (λ k. row_at rows n ∷ drop k rows) {x = suc n} {y = n + 1} (omega arith))

module _ (r : Run) (w i : ℕ) (rows : List Row) (n : ℕ) (lt : n < length rows) where
  -- the rows taken with one more of the turn
  pub row-more : taken_with r w i rows (n + 1) ≡ taken_with r w i rows n ++ row_at rows n ∷ []
  row-more =
      ap (λ (l : List Row). rows_before r w i ++ l)
      (take_more rows n no_row lt ∙ ap (λ (y : Row). take n rows ++ y ∷ []) (sym (unwrap_or-slice_get rows n no_row)))
      ∙ sym (append_assoc (rows_before r w i) (take n rows) (row_at rows n ∷ []))

  -- the worker comes to it
  pub at-row : AreRowsOfTurn r w i rows → IsAtRow r w i (taken_with r w i rows n) (row_at rows n)
  at-row turn = record {
    chunk = turn.chunk;
    at = turn.at;
    turn = turn.turn;
    front = take n rows;
    back = drop (n + 1) rows;
    rows = sym turn.rows_are ∙ split-at rows n lt;
    taken_is = refl;
  }

  -- rows have numbers
  pub row-few : (t : Local) (s : SharesSeen) → TakesTurns r → AreRowsOfTurn r w i rows → IsInTurn r w i (taken_with r w i rows n) t s → n < 2 ^ 32
  row-few t s takes turn here =
      omega (arith, taken-few r w i (taken_with r w i rows n) (row_at rows n) t s takes (at-row turn) here, length-append (rows_before r w i) (take n rows), length-take-le n rows (omega arith))

-- a worker that stops within a turn
pub turn-stopped : (r : Run) (w i : ℕ) (rows : List Row) (n : ℕ) (t : Local) (s : SharesSeen) → TakesTurns r → AreRowsOfTurn r w i rows → IsInTurn r w i (taken_with r w i rows n) t s → AreSharesAtStop r w stop.Memory s
turn-stopped r w i rows n t s takes turn here = record {
  fronts = turn-fronts r w i rows (take n rows) (drop n rows) s takes turn (sym (take-append-drop n rows)) here.worker here.events;
  faults = here.faults;
  partition = takes.runnable.limits.partitions;
}
