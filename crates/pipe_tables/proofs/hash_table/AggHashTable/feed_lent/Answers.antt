use Rattle.std.proofs.Common.{◌≡◌, ◌∙◌, ◌<◌, ℕ, List, [], ◌∷◌, length, ap, arith, refl, subst, sym}
use Rattle.pipe_columns.specs.declared.data_type.DataType.{DataType}
use Rattle.pipe_spill.specs.SpillRow.{IsRow}
use Rattle.pipe_spill.specs.declared.spill_row.SpillRow.{SpillRow}
use Rattle.pipe_groups.specs.Groups.{group_keys}
use Rattle.pipe_groups.specs.Shape.{Shape}
use Rattle.pipe_keyed.specs.Keyed.{IsAt}
use Rattle.pipe_keyed.specs.Tables.{Table, TakesOne}
use Rattle.pipe_waiting.specs.ReadRows.{read_rows}
use Rattle.pipe_waiting.specs.Waiting.{HaveNoTexts, HoldRows, IsNext, left_rows}
use Rattle.pipe_tables.specs.Tables.{taken_row}
use Rattle.pipe_tables.specs.Waits.{AreAt, TookAt}
use Rattle.pipe_tables.proofs.SpotLists.{at-some}
use Rattle.pipe_tables.proofs.TookAtFacts.{row-at, row-few, row-rest, row-taken, row-typed, taken-all, taken-none}
use Rattle.pipe_tables.proofs.hash_table.AggHashTable.feed_lent.Goals as goal

pub loop-row-init : goal.loop-row-init
loop-row-init c = record {
  held = c.requires.held;
  size = refl;
  took = taken-none c.args.self.now (left_rows c.args.self.now.shape.input_types c.args.rows);
  at = c.requires.rows.at;
}

-- the types of the table at hand are those of the one at first
pub next_plain-requires-clause-held : goal.next_plain-requires-clause-held
next_plain-requires-clause-held c =
    let types : c.input_types.result.now ≡ c.args.self.now.shape.input_types = c.input_types.ensures ∙ ap (λ (s : Shape). s.input_types) c.loop-row.invariant.took.took.shape.0 in
    subst (λ (ts : List DataType). HoldRows ts c.loop-row.rows.count c.loop-row.rows.bytes) (sym types) c.loop-row.invariant.held

pub next_plain-requires-clause-plain : goal.next_plain-requires-clause-plain
next_plain-requires-clause-plain c =
    let types : c.input_types.result.now ≡ c.args.self.now.shape.input_types = c.input_types.ensures ∙ ap (λ (s : Shape). s.input_types) c.loop-row.invariant.took.took.shape.0 in
    subst (λ (ts : List DataType). HaveNoTexts ts) (sym types) c.requires.plain

pub next_plain-requires-clause-fit : goal.next_plain-requires-clause-fit
next_plain-requires-clause-fit c =
    let types : c.input_types.result.now ≡ c.args.self.now.shape.input_types = c.input_types.ensures ∙ ap (λ (s : Shape). s.input_types) c.loop-row.invariant.took.took.shape.0 in
    c.loop-row.invariant.size ∙ c.requires.fit ∙ ap (λ (ts : List DataType). length ts) (sym types)

-- where a row is left there is a spot
pub unreachable-requires : goal.unreachable-requires
unreachable-requires c =
    let T : List DataType = c.args.self.now.shape.input_types in
    let types : c.input_types.result.now ≡ T = c.input_types.ensures ∙ ap (λ (s : Shape). s.input_types) c.loop-row.invariant.took.took.shape.0 in
    let r : SpillRow = taken_row c.in-Some.row.place c.in-Some.row.key.now c.next_plain.new.values in
    let next : IsNext T r c.loop-row.rows c.next_plain.new.self = subst (λ (ts : List DataType). IsNext ts r c.loop-row.rows c.next_plain.new.self) types c.in-Some.ensures.some in
    let some : 0 < length c.loop-row.spots.now = at-some (group_keys c.args.self.now.groups) r (left_rows T c.next_plain.new.self) c.loop-row.spots.now
    (subst (λ (l : List SpillRow). AreAt (group_keys c.args.self.now.groups) l c.loop-row.spots.now) next.rows c.loop-row.invariant.at) in
    omega (arith, some, c.in_default-split_first.ensures.cases)

pub feed_at-requires-clause-typed : goal.feed_at-requires-clause-typed
feed_at-requires-clause-typed c =
    let T : List DataType = c.args.self.now.shape.input_types in
    let types : c.input_types.result.now ≡ T = c.input_types.ensures ∙ ap (λ (s : Shape). s.input_types) c.loop-row.invariant.took.took.shape.0 in
    let r : SpillRow = taken_row c.in-Some.row.place c.in-Some.row.key.now c.next_plain.new.values in
    let next : IsNext T r c.loop-row.rows c.next_plain.new.self = subst (λ (ts : List DataType). IsNext ts r c.loop-row.rows c.next_plain.new.self) types c.in-Some.ensures.some in
    subst (λ (t : Table). IsRow t.shape.key_types t.shape.input_types r) (sym c.look_at_spots.ensures) (row-typed c.args.self.now c.loop-row.self _ _ _ _ _ _ _ _ c.requires.rows c.loop-row.invariant.took next c.in-Some-split_first.ensures.cases.0 c.loop-row.invariant.at)

pub feed_at-requires-clause-few : goal.feed_at-requires-clause-few
feed_at-requires-clause-few c =
    let T : List DataType = c.args.self.now.shape.input_types in
    let types : c.input_types.result.now ≡ T = c.input_types.ensures ∙ ap (λ (s : Shape). s.input_types) c.loop-row.invariant.took.took.shape.0 in
    let r : SpillRow = taken_row c.in-Some.row.place c.in-Some.row.key.now c.next_plain.new.values in
    let next : IsNext T r c.loop-row.rows c.next_plain.new.self = subst (λ (ts : List DataType). IsNext ts r c.loop-row.rows c.next_plain.new.self) types c.in-Some.ensures.some in
    subst (λ (t : Table). TakesOne t) (sym c.look_at_spots.ensures) (row-few c.args.self.now c.loop-row.self _ _ _ _ _ _ _ _ c.requires.rows c.loop-row.invariant.took next c.in-Some-split_first.ensures.cases.0 c.loop-row.invariant.at)

pub feed_at-requires-clause-at : goal.feed_at-requires-clause-at
feed_at-requires-clause-at c =
    let T : List DataType = c.args.self.now.shape.input_types in
    let types : c.input_types.result.now ≡ T = c.input_types.ensures ∙ ap (λ (s : Shape). s.input_types) c.loop-row.invariant.took.took.shape.0 in
    let r : SpillRow = taken_row c.in-Some.row.place c.in-Some.row.key.now c.next_plain.new.values in
    let next : IsNext T r c.loop-row.rows c.next_plain.new.self = subst (λ (ts : List DataType). IsNext ts r c.loop-row.rows c.next_plain.new.self) types c.in-Some.ensures.some in
    subst (λ (t : Table). IsAt t.groups r.key c.in-Some-split_first.spot.now) (sym c.look_at_spots.ensures) (row-at c.args.self.now c.loop-row.self _ _ _ _ _ _ _ _ c.requires.rows c.loop-row.invariant.took next c.in-Some-split_first.ensures.cases.0 c.loop-row.invariant.at)

pub loop-row-smaller : goal.loop-row-smaller
loop-row-smaller c = omega (arith, c.in-Some.ensures.some.count)

pub loop-row-preserved : goal.loop-row-preserved
loop-row-preserved c =
    let T : List DataType = c.args.self.now.shape.input_types in
    let types : c.input_types.result.now ≡ T = c.input_types.ensures ∙ ap (λ (s : Shape). s.input_types) c.loop-row.invariant.took.took.shape.0 in
    let r : SpillRow = taken_row c.in-Some.row.place c.in-Some.row.key.now c.next_plain.new.values in
    let next : IsNext T r c.loop-row.rows c.next_plain.new.self = subst (λ (ts : List DataType). IsNext ts r c.loop-row.rows c.next_plain.new.self) types c.in-Some.ensures.some in
    let took : TookAt c.loop-row.self c.feed_at.new.self (r ∷ []) = subst (λ (t : Table). TookAt t c.feed_at.new.self (r ∷ [])) c.look_at_spots.ensures c.feed_at.ensures.took in
    record {
      held = next.left;
      size = c.feed_at.ensures.fits ∙ c.next_plain.ensures.fits ∙ c.loop-row.invariant.size;
      took = row-taken c.args.self.now c.loop-row.self _ _ _ _ _ _ _ _ c.requires.rows c.loop-row.invariant.took next c.in-Some-split_first.ensures.cases.0 c.loop-row.invariant.at c.feed_at.new.self took;
      at = row-rest c.args.self.now c.loop-row.self _ _ _ _ _ _ _ _ c.requires.rows c.loop-row.invariant.took next c.in-Some-split_first.ensures.cases.0 c.loop-row.invariant.at;
    }

pub returns-clause-took : goal.returns-clause-took
returns-clause-took c =
    taken-all c.args.self.now c.loop-row.self _ _ c.loop-row.invariant.took (ap (λ (n : ℕ). read_rows c.args.self.now.shape.input_types n c.loop-row.rows.bytes) (c.in_default.ensures.none refl))

pub returns-clause-fits : goal.returns-clause-fits
returns-clause-fits c = c.next_plain.ensures.fits ∙ c.loop-row.invariant.size
