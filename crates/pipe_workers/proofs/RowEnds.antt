-- How a row of a turn ends, as an insert tells it.
use Rattle.std.proofs.Common.{◌≡◌, ◌∙◌, ◌+◌, ◌<◌, ℕ, List, ◌∷◌, ◌++◌, [], Option, Some, None, length, sym, ap, subst}
use Rattle.pipe_columns.specs.Row.{Row}
use Rattle.pipe_columns.specs.declared.data_type.DataType.{DataType}
use Rattle.pipe_aggs.specs.CheckedQuery.{input_types}
use Rattle.pipe_model.specs.Output.{key_types}
use Rattle.pipe_plan.specs.Run.{Run}
use Rattle.pipe_inputs.specs.ChunkRows.{row_at}
use Rattle.pipe_spill.specs.SpillRow.{Payload, spilled}
use Rattle.pipe_spill.specs.declared.spill_row.SpillRow.{SpillRow}
use Rattle.pipe_groups.specs.Shape.{Shape}
use Rattle.pipe_waiting.specs.Waiting.{Waiting, waiting_rows}
use Rattle.pipe_tables.specs.LocalTable.{let_go, Local, local_with_row}
use Rattle.pipe_global.specs.Shares.{raised, SharesSeen}
use Rattle.pipe_workers.specs.Steps.{AreRowsOfTurn, IsInTurn, taken_with}
use Rattle.pipe_workers.specs.Workers.{TakesTurns}
use Rattle.pipe_workers.proofs.AtRows.{row-held, row-sent}
use Rattle.pipe_workers.proofs.InTurns.{at-row, row-more}

module _ (r : Run) (w i : ℕ) (rows : List Row) (n : ℕ) (t : Local) (s : SharesSeen) (takes : TakesTurns r) (turn : AreRowsOfTurn r w i rows) (lt : n < length rows)
    (here : IsInTurn r w i (taken_with r w i rows n) t s) where
  -- what is let go, by the types of the run
  pub gone-is : (o : Option (ℕ × List SpillRow)) → o ≡ let_go (spilled t.table.shape.key_types (row_at rows n)) t → let_go (spilled (key_types r.query) (row_at rows n)) t ≡ o
  gone-is o is = sym (is ∙ ap (λ (h : Shape). let_go (spilled h.key_types (row_at rows n)) t) here.table.shape)

  -- and what leaves, by the types of the run
  pub gone-read : (p : ℕ) (w : Waiting) → Some (p, waiting_rows t.table.shape.input_types w) ≡ let_go (spilled t.table.shape.key_types (row_at rows n)) t
      → let_go (spilled (key_types r.query) (row_at rows n)) t ≡ Some (p, waiting_rows (input_types r.query) w)
  gone-read p w is =
      let some : List DataType → Option (ℕ × List SpillRow) = λ types. Some (p, waiting_rows types w) in
      gone-is (some t.table.shape.input_types) is ∙ ap (λ (h : Shape). some h.input_types) here.table.shape

  -- and the table with the row
  new-is : (u : Local) → u ≡ local_with_row (spilled t.table.shape.key_types (row_at rows n)) t → local_with_row (spilled (key_types r.query) (row_at rows n)) t ≡ u
  new-is u is = sym (is ∙ ap (λ (h : Shape). local_with_row (spilled h.key_types (row_at rows n)) t) here.table.shape)

  -- the row is held or waits
  pub row-ends : (u : Local) → None ≡ let_go (spilled t.table.shape.key_types (row_at rows n)) t → u ≡ local_with_row (spilled t.table.shape.key_types (row_at rows n)) t
      → IsInTurn r w i (taken_with r w i rows (n + 1)) u s
  row-ends u gone new =
      subst (λ (l : List Row). IsInTurn r w i l u s) (sym (row-more r w i rows n lt))
      (subst (λ (v : Local). IsInTurn r w i (taken_with r w i rows n ++ row_at rows n ∷ []) v s) (new-is u new)
      (row-held r w i (taken_with r w i rows n) (row_at rows n) t s takes (at-row r w i rows n lt turn) here (gone-is None gone)))

  -- it leaves with those before it
  pub row-leaves : (u : Local) (h : SharesSeen) (p : ℕ) (payload : Payload) → Some (p, payload.rows) ≡ let_go (spilled t.table.shape.key_types (row_at rows n)) t
      → u ≡ local_with_row (spilled t.table.shape.key_types (row_at rows n)) t → h ≡ raised s p → length s.events ≡ r.limits.partitions → IsInTurn r w i (taken_with r w i rows (n + 1)) u h
  row-leaves u h p payload gone new sent count =
      subst (λ (l : List Row). IsInTurn r w i l u h) (sym (row-more r w i rows n lt))
      (subst (λ (v : Local). IsInTurn r w i (taken_with r w i rows n ++ row_at rows n ∷ []) v h) (new-is u new)
      (subst (λ (v : SharesSeen). IsInTurn r w i (taken_with r w i rows n ++ row_at rows n ∷ []) (local_with_row (spilled (key_types r.query) (row_at rows n)) t) v) (sym sent)
      (row-sent r w i (taken_with r w i rows n) (row_at rows n) t s takes (at-row r w i rows n lt turn) here p payload (gone-is (Some (p, payload.rows)) gone) count)))
