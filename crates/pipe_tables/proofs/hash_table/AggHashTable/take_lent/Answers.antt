use Rattle.std.proofs.Common.{[], ℕ, List, ap, subst, sym}
use Rattle.pipe_spill.specs.declared.spill_row.SpillRow.{SpillRow}
use Rattle.pipe_groups.specs.Groups.{group_keys}
use Rattle.pipe_groups.specs.Shape.{Shape}
use Rattle.pipe_waiting.specs.Waiting.{Left, left_rows}
use Rattle.pipe_tables.specs.Waits.{AreAt}
use Rattle.pipe_tables.proofs.TookAtFacts.{found-can, found-holds, found-shape}
use Rattle.pipe_tables.proofs.hash_table.AggHashTable.take_lent.Goals as goal

pub feed_lent-requires-clause-rows : goal.feed_lent-requires-clause-rows
feed_lent-requires-clause-rows c =
    let same = c.find_lent.ensures.same in
    let keys : List (List ℕ) = group_keys c.find_lent.new.self.groups in
    let rows : List SpillRow = left_rows c.args.self.now.shape.input_types c.args.rows in
    let none : AreAt (group_keys c.args.self.now.groups) [] c.in_ok-spots.spots.items = subst (λ (l : List ℕ). AreAt (group_keys c.args.self.now.groups) [] l) (sym c.in_ok-spots.ensures.items) tt in
    let found : AreAt keys rows c.find_lent.new.spots.items =
    subst (λ (a : Left). AreAt keys (left_rows c.args.self.now.shape.input_types a) c.find_lent.new.spots.items) c.again.ensures (c.in_ok-find_lent.ensures.at [] none) in
    found-can c.args.self.now c.find_lent.new.self rows (left_rows c.find_lent.new.self.shape.input_types c.args.rows) c.deref.result.now c.requires.typed c.requires.few same
    (subst (AreAt keys rows) (sym c.deref.ensures.value) found) (ap (λ (s : Shape). left_rows s.input_types c.args.rows) same.shape.0)

pub returns-clause-shape : goal.returns-clause-shape
returns-clause-shape c = found-shape c.args.self.now c.find_lent.new.self c.feed_lent.new.self _ c.find_lent.ensures.same c.feed_lent.ensures.took

pub returns-clause-ok : goal.returns-clause-ok
returns-clause-ok c =
    let same = c.find_lent.ensures.same in
    found-holds c.args.self.now c.find_lent.new.self c.feed_lent.new.self (left_rows c.args.self.now.shape.input_types c.args.rows) (left_rows c.find_lent.new.self.shape.input_types c.args.rows) same
    c.feed_lent.ensures.took (ap (λ (s : Shape). left_rows s.input_types c.args.rows) same.shape.0)
