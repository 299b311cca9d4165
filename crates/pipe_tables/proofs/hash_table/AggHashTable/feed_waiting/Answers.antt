use Rattle.std.proofs.Common.{◌≡◌, ◌∙◌, ◌+◌, ◌++◌, ℕ, List, length, ap, arith, drop, length-append, refl, subst, sym}
use Rattle.std.proofs.lemmas.List.{drop_all}
use Rattle.pipe_columns.specs.declared.data_type.DataType.{DataType}
use Rattle.pipe_spill.specs.declared.spill_row.SpillRow.{SpillRow}
use Rattle.pipe_groups.specs.Groups.{group_keys}
use Rattle.pipe_groups.specs.Shape.{Shape}
use Rattle.pipe_waiting.specs.Waiting.{HaveNoTexts, HoldRows, left_rows, Waiting, waiting_rows}
use Rattle.pipe_waiting.proofs.ReadBack.{count_read}
use Rattle.pipe_tables.specs.Waits.{AreAt, CanTakeAt, HasTakenBut, rows_waiting, TookAt}
use Rattle.pipe_tables.proofs.SpotLists.{at-count, at-parts}
use Rattle.pipe_tables.proofs.TookAtFacts.{next-can, one-waits, taken-all, taken-more, taken-none, waiting-next}
use Rattle.pipe_tables.proofs.hash_table.AggHashTable.feed_waiting.Goals as goal

pub loop-rows-init : goal.loop-rows-init
loop-rows-init c = record {
  size = refl;
  took = taken-none c.args.self.now (rows_waiting c.args.self.now.shape.input_types c.args.waiting.now);
  at = c.requires.rows.at;
}

-- there are as many spots as rows of the payload, and more
pub split_at-requires : goal.split_at-requires
split_at-requires c =
    let T : List DataType = c.args.self.now.shape.input_types in
    let own : List SpillRow = waiting_rows T c.rows-item.result in
    let rest : List SpillRow = rows_waiting T (drop (c.loop-rows.rows-index + 1) c.args.waiting.now) in
    let next : rows_waiting T (drop c.loop-rows.rows-index c.args.waiting.now) ≡ own ++ rest = waiting-next T c.args.waiting.now c.loop-rows.rows-index c.rows-item.result c.loop-rows-test.true c.rows-item.is in
    let long : length c.loop-rows.spots.now ≡ length (own ++ rest) = at-count (group_keys c.args.self.now.groups) (own ++ rest) c.loop-rows.spots.now (subst (λ (l : List SpillRow). AreAt (group_keys c.args.self.now.groups) l c.loop-rows.spots.now) next c.loop-rows.invariant.at) in
    omega (arith, long, length-append own rest, count_read T c.rows-item.result.count c.rows-item.result.bytes, c.len.ensures)

pub feed_lent-requires-clause-held : goal.feed_lent-requires-clause-held
feed_lent-requires-clause-held c =
    subst (λ (s : Shape). HoldRows s.input_types c.lend.result.count c.lend.result.bytes) (sym c.loop-rows.invariant.took.took.shape.0)
    (c.lend.ensures.typed c.args.self.now.shape.input_types (one-waits c.args.self.now.shape.input_types c.args.waiting.now c.loop-rows.rows-index c.rows-item.result c.loop-rows-test.true c.rows-item.is c.requires.held))

pub feed_lent-requires-clause-plain : goal.feed_lent-requires-clause-plain
feed_lent-requires-clause-plain c = subst (λ (s : Shape). HaveNoTexts s.input_types) (sym c.loop-rows.invariant.took.took.shape.0) c.requires.plain

pub feed_lent-requires-clause-fit : goal.feed_lent-requires-clause-fit
feed_lent-requires-clause-fit c = c.loop-rows.invariant.size ∙ c.requires.fit ∙ ap (λ (s : Shape). length s.input_types) (sym c.loop-rows.invariant.took.took.shape.0)

pub feed_lent-requires-clause-rows : goal.feed_lent-requires-clause-rows
feed_lent-requires-clause-rows c =
    let T : List DataType = c.args.self.now.shape.input_types in
    let keys : List (List ℕ) = group_keys c.args.self.now.groups in
    let own : List SpillRow = waiting_rows T c.rows-item.result in
    let rest : List SpillRow = rows_waiting T (drop (c.loop-rows.rows-index + 1) c.args.waiting.now) in
    let next : rows_waiting T (drop c.loop-rows.rows-index c.args.waiting.now) ≡ own ++ rest = waiting-next T c.args.waiting.now c.loop-rows.rows-index c.rows-item.result c.loop-rows-test.true c.rows-item.is in
    let lent : left_rows c.loop-rows.self.shape.input_types c.lend.result ≡ own = ap (λ (s : Shape). left_rows s.input_types c.lend.result) c.loop-rows.invariant.took.took.shape.0 ∙ c.lend.ensures.rows T in
    let long : length own ≡ c.len.result = count_read T c.rows-item.result.count c.rows-item.result.bytes ∙ sym c.len.ensures in
    let parts = at-parts keys own rest c.loop-rows.spots.now c.len.result long (subst (λ (l : List SpillRow). AreAt keys l c.loop-rows.spots.now) next c.loop-rows.invariant.at) in
    let at : AreAt keys own c.split_at.result.0.now = subst (AreAt keys own) (sym c.split_at.ensures.front) parts.0 in
    subst (λ (l : List SpillRow). CanTakeAt c.loop-rows.self l c.split_at.result.0.now) (sym lent)
    (next-can c.args.self.now c.loop-rows.self (rows_waiting T c.args.waiting.now) own rest c.args.spots.now c.split_at.result.0.now c.requires.rows
    (subst (HasTakenBut c.args.self.now c.loop-rows.self (rows_waiting T c.args.waiting.now)) next c.loop-rows.invariant.took) at)

pub loop-rows-preserved : goal.loop-rows-preserved
loop-rows-preserved c =
    let T : List DataType = c.args.self.now.shape.input_types in
    let keys : List (List ℕ) = group_keys c.args.self.now.groups in
    let own : List SpillRow = waiting_rows T c.rows-item.result in
    let rest : List SpillRow = rows_waiting T (drop (c.loop-rows.rows-index + 1) c.args.waiting.now) in
    let next : rows_waiting T (drop c.loop-rows.rows-index c.args.waiting.now) ≡ own ++ rest = waiting-next T c.args.waiting.now c.loop-rows.rows-index c.rows-item.result c.loop-rows-test.true c.rows-item.is in
    let lent : left_rows c.loop-rows.self.shape.input_types c.lend.result ≡ own = ap (λ (s : Shape). left_rows s.input_types c.lend.result) c.loop-rows.invariant.took.took.shape.0 ∙ c.lend.ensures.rows T in
    let long : length own ≡ c.len.result = count_read T c.rows-item.result.count c.rows-item.result.bytes ∙ sym c.len.ensures in
    let parts = at-parts keys own rest c.loop-rows.spots.now c.len.result long (subst (λ (l : List SpillRow). AreAt keys l c.loop-rows.spots.now) next c.loop-rows.invariant.at) in
    record {
      size = c.feed_lent.ensures.fits ∙ c.loop-rows.invariant.size;
      took = taken-more c.args.self.now c.loop-rows.self c.feed_lent.new.self (rows_waiting T c.args.waiting.now) own rest
          (subst (HasTakenBut c.args.self.now c.loop-rows.self (rows_waiting T c.args.waiting.now)) next c.loop-rows.invariant.took)
          (subst (TookAt c.loop-rows.self c.feed_lent.new.self) lent c.feed_lent.ensures.took);
      at = subst (AreAt keys rest) (sym c.split_at.ensures.back) parts.1;
    }

pub returns-clause-took : goal.returns-clause-took
returns-clause-took c =
    let none = drop_all c.loop-rows.rows-index c.args.waiting.now (omega (arith, c.loop-rows-test.false)) in
    taken-all c.args.self.now c.loop-rows.self _ _ c.loop-rows.invariant.took (ap (λ (ws : List Waiting). rows_waiting c.args.self.now.shape.input_types ws) none)
