use Rattle.std.proofs.Common.{◌≡◌, ◌∙◌, ◌+◌, ◌++◌, ℕ, List, ap, arith, subst, sym, take}
use Rattle.std.proofs.lemmas.List.{take_all}
use Rattle.pipe_columns.specs.declared.data_type.DataType.{DataType}
use Rattle.pipe_spill.specs.declared.spill_row.SpillRow.{SpillRow}
use Rattle.pipe_groups.specs.Groups.{group_keys}
use Rattle.pipe_groups.specs.Shape.{Shape}
use Rattle.pipe_waiting.specs.Waiting.{HoldRows, left_rows, Waiting, waiting_rows}
use Rattle.pipe_tables.specs.Waits.{AreAt, rows_waiting}
use Rattle.pipe_tables.proofs.FoundFacts.{as-more, as-none}
use Rattle.pipe_tables.proofs.TookAtFacts.{one-waits, waiting-more}
use Rattle.pipe_tables.proofs.hash_table.AggHashTable.find_waiting.Goals as goal

pub loop-rows-init : goal.loop-rows-init
loop-rows-init c = record {
  same = as-none c.args.self.now;
  at = subst (λ (l : List ℕ). AreAt (group_keys c.args.self.now.groups) (rows_waiting c.args.self.now.shape.input_types (take 0 c.args.waiting.now)) l) (sym c.requires.none) tt;
}

pub find_lent-requires-clause-held : goal.find_lent-requires-clause-held
find_lent-requires-clause-held c =
    subst (λ (s : Shape). HoldRows s.input_types c.lend.result.count c.lend.result.bytes) (sym c.loop-rows.invariant.same.shape.0)
    (c.lend.ensures.typed c.args.self.now.shape.input_types (one-waits c.args.self.now.shape.input_types c.args.waiting.now c.loop-rows.rows-index c.rows-item.result c.loop-rows-test.true c.rows-item.is c.requires.held))

pub loop-rows-preserved : goal.loop-rows-preserved
loop-rows-preserved c =
    let T : List DataType = c.args.self.now.shape.input_types in
    let before : List SpillRow = rows_waiting T (take c.loop-rows.rows-index c.args.waiting.now) in
    let lent : left_rows c.loop-rows.self.shape.input_types c.lend.result ≡ waiting_rows T c.rows-item.result =
    ap (λ (s : Shape). left_rows s.input_types c.lend.result) c.loop-rows.invariant.same.shape.0 ∙ c.lend.ensures.rows T in
    let next : before ++ left_rows c.loop-rows.self.shape.input_types c.lend.result ≡ rows_waiting T (take (c.loop-rows.rows-index + 1) c.args.waiting.now) =
    ap (λ (l : List SpillRow). before ++ l) lent ∙ sym (waiting-more T c.args.waiting.now c.loop-rows.rows-index c.rows-item.result c.loop-rows-test.true c.rows-item.is) in
    record {
      same = as-more c.args.self.now c.loop-rows.self c.find_lent.new.self c.loop-rows.invariant.same c.find_lent.ensures.same;
      at = subst (λ (l : List SpillRow). AreAt (group_keys c.find_lent.new.self.groups) l c.find_lent.new.spots.items) next (c.in_ok-find_lent.ensures.at before c.loop-rows.invariant.at);
    }

pub returns-in_err-find_lent-clause-same : goal.returns-in_err-find_lent-clause-same
returns-in_err-find_lent-clause-same c = as-more c.args.self.now c.loop-rows.self c.find_lent.new.self c.loop-rows.invariant.same c.find_lent.ensures.same

pub returns-clause-at : goal.returns-clause-at
returns-clause-at c =
    let all = take_all c.loop-rows.rows-index c.args.waiting.now (omega (arith, c.loop-rows-test.false)) in
    subst (λ (ws : List Waiting). AreAt (group_keys c.loop-rows.self.groups) (rows_waiting c.args.self.now.shape.input_types ws) c.loop-rows.spots.items) all c.loop-rows.invariant.at
