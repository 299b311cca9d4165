use Rattle.std.proofs.Common.{rules, ◌≡◌, ℕ, List, subst}
use Rattle.std.specs.Prelude.{OnOk}
use Rattle.pipe_columns.specs.declared.data_type.DataType.{DataType}
use Rattle.pipe_columns.specs.declared.place.Place.{Place}
use Rattle.pipe_columns.specs.Key.{code}
use Rattle.pipe_columns.specs.Row.{Row}
use Rattle.pipe_aggs.specs.CheckedQuery.{input_types}
use Rattle.pipe_aggs.specs.QueryTrees.{query_tree}
use Rattle.pipe_inputs.specs.ChunkRows.{row_at}
use Rattle.pipe_model.specs.Output.{key_types}
use Rattle.pipe_spill.specs.SpillRow.{spilled}
use Rattle.pipe_spill.specs.declared.spill_row.SpillRow.{SpillRow}
use Rattle.pipe_waiting.specs.Waiting.{HasPushed, lent_row}
use Rattle.merge_times.proofs.waits.push_row.Goals as goal

-- a row that is lent with its own key and place is the one that is spilled
lent-is : (types : List DataType) (key : List ℕ) (place : Place) (rows : List Row) (n : ℕ) → key ≡ code types (row_at rows n).key → place ≡ (row_at rows n).place
    → lent_row key place rows n ≡ spilled types (row_at rows n)
lent-is types key place rows n k p = λ i. record { place = p i; key = k i; values = (row_at rows n).inputs }

pub returns : goal.returns
returns c =
    let types = input_types (query_tree c.args.query.now) in
    let keys = key_types (query_tree c.args.query.now) in
    subst (λ (r : SpillRow). OnOk c.push_lent.result (HasPushed types r c.args.waiting.now c.push_lent.new.self))
    (lent-is keys _ _ c.args.rows.now c.args.row (search rules) c.place.ensures)
    (rw c.input_types.ensures at c.push_lent.ensures.pushed)
