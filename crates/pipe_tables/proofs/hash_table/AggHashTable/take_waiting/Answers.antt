use Rattle.std.proofs.Common.{ℕ, List, ap, subst, sym}
use Rattle.pipe_spill.specs.declared.spill_row.SpillRow.{SpillRow}
use Rattle.pipe_groups.specs.Groups.{group_keys}
use Rattle.pipe_groups.specs.Shape.{Shape}
use Rattle.pipe_tables.specs.Waits.{AreAt, rows_waiting}
use Rattle.pipe_tables.proofs.TookAtFacts.{found-can, found-holds, found-shape}
use Rattle.pipe_tables.proofs.hash_table.AggHashTable.take_waiting.Goals as goal

pub feed_waiting-requires-clause-rows : goal.feed_waiting-requires-clause-rows
feed_waiting-requires-clause-rows c =
    let same = c.find_waiting.ensures.same in
    let keys : List (List ℕ) = group_keys c.find_waiting.new.self.groups in
    let rows : List SpillRow = rows_waiting c.args.self.now.shape.input_types c.args.waiting.now in
    found-can c.args.self.now c.find_waiting.new.self rows (rows_waiting c.find_waiting.new.self.shape.input_types c.args.waiting.now) c.deref.result.now c.requires.typed c.requires.few same
    (subst (AreAt keys rows) (sym c.deref.ensures.value) c.in_ok-find_waiting.ensures.at) (ap (λ (s : Shape). rows_waiting s.input_types c.args.waiting.now) same.shape.0)

pub returns-clause-shape : goal.returns-clause-shape
returns-clause-shape c = found-shape c.args.self.now c.find_waiting.new.self c.feed_waiting.new.self _ c.find_waiting.ensures.same c.feed_waiting.ensures.took

pub returns-clause-ok : goal.returns-clause-ok
returns-clause-ok c =
    let same = c.find_waiting.ensures.same in
    found-holds c.args.self.now c.find_waiting.new.self c.feed_waiting.new.self (rows_waiting c.args.self.now.shape.input_types c.args.waiting.now) (rows_waiting c.find_waiting.new.self.shape.input_types c.args.waiting.now) same
    c.feed_waiting.ensures.took (ap (λ (s : Shape). rows_waiting s.input_types c.args.waiting.now) same.shape.0)
