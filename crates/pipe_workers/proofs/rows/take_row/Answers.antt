use Rattle.std.proofs.Common.{sym, subst, refl}
use Rattle.pipe_aggs.specs.CheckedQuery.{input_types}
use Rattle.pipe_model.specs.Output.{key_types}
use Rattle.pipe_inputs.specs.ChunkRows.{row_at}
use Rattle.pipe_spill.specs.SpillRow.{IsRow, spilled}
use Rattle.pipe_spill.proofs.SpilledRows.{spilled_is_row}
use Rattle.pipe_groups.specs.Shape.{Shape, shape_of}
use Rattle.pipe_waiting.specs.Waiting.{AreWaiting, payload_read}
use Rattle.pipe_tables.proofs.AfterFacts.{after-room}
use Rattle.pipe_global.specs.Shares.{SharesSeen}
use Rattle.pipe_workers.specs.declared.stop.WorkerStop.TheVariants as stop
use Rattle.pipe_workers.specs.Steps.{taken_with}
use Rattle.pipe_workers.specs.Turns.{AreSharesAtStop}
use Rattle.pipe_workers.proofs.AtRows.{all-taken, arrival-next, leaves, piece-next, row-typed, taken-few}
use Rattle.pipe_workers.proofs.InTurns.{at-row, row-few, turn-stopped}
use Rattle.pipe_workers.proofs.RowEnds.{gone-read, row-ends, row-leaves}
use Rattle.pipe_workers.proofs.rows.take_row.Goals as goal

pub insert_lent-requires-clause-placed : goal.insert_lent-requires-clause-placed
insert_lent-requires-clause-placed g c =
    row-few g.R.Naming.run c.args.shares.now.worker c.args.turn.now.position c.args.turn.now.rows c.args.row c.requires.there c.args.table.now c.args.shares.now c.query-query.ensures.takes_turns c.requires.turn c.requires.within

pub insert_lent-requires-clause-typed : goal.insert_lent-requires-clause-typed
insert_lent-requires-clause-typed g c =
    let r = g.R.Naming.run in
    let w = c.args.shares.now.worker in
    let i = c.args.turn.now.position in
    let rows = c.args.turn.now.rows in
    let n = c.args.row in
    let typed = row-typed r w i (taken_with r w i rows n) (row_at rows n) c.args.table.now c.args.shares.now c.query-query.ensures.takes_turns (at-row r w i rows n c.requires.there c.requires.turn) c.requires.within in
    subst (λ (h : Shape). IsRow h.key_types h.input_types (spilled h.key_types (row_at rows n))) (sym c.requires.within.table.shape)
    (spilled_is_row (key_types r.query) (input_types r.query) (row_at rows n) typed)

pub insert_lent-requires-clause-few : goal.insert_lent-requires-clause-few
insert_lent-requires-clause-few g c =
    let r = g.R.Naming.run in
    let w = c.args.shares.now.worker in
    let i = c.args.turn.now.position in
    let rows = c.args.turn.now.rows in
    let n = c.args.row in
    let at = at-row r w i rows n c.requires.there c.requires.turn in
    after-room r.limits (shape_of r.query) (taken_with r w i rows n) c.args.table.now
    (all-taken r w i (taken_with r w i rows n) (row_at rows n) c.args.table.now c.args.shares.now c.query-query.ensures.takes_turns at c.requires.within)
    (taken-few r w i (taken_with r w i rows n) (row_at rows n) c.args.table.now c.args.shares.now c.query-query.ensures.takes_turns at c.requires.within)
    c.requires.within.table

pub spill_waiting-requires-clause-exists : goal.spill_waiting-requires-clause-exists
spill_waiting-requires-clause-exists g c =
    let r = g.R.Naming.run in
    let w = c.args.shares.now.worker in
    let i = c.args.turn.now.position in
    let rows = c.args.turn.now.rows in
    let n = c.args.row in
    let at = at-row r w i rows n c.requires.there c.requires.turn in
    let gone = (rw c.in-Payload.is at c.insert_lent.ensures.payload) refl in
    let left = gone-read r w i rows n c.args.table.now c.args.shares.now c.query-query.ensures.takes_turns c.requires.turn c.requires.there c.requires.within c.in-Payload.partition c.in-Payload.payload gone in
    (leaves r w i (taken_with r w i rows n) (row_at rows n) c.args.table.now c.args.shares.now c.query-query.ensures.takes_turns at c.requires.within _ _ left).there

pub spill_waiting-requires-clause-next : goal.spill_waiting-requires-clause-next
spill_waiting-requires-clause-next g c =
    let r = g.R.Naming.run in
    let w = c.args.shares.now.worker in
    let i = c.args.turn.now.position in
    let rows = c.args.turn.now.rows in
    let n = c.args.row in
    let at = at-row r w i rows n c.requires.there c.requires.turn in
    let gone = (rw c.in-Payload.is at c.insert_lent.ensures.payload) refl in
    let left = gone-read r w i rows n c.args.table.now c.args.shares.now c.query-query.ensures.takes_turns c.requires.turn c.requires.there c.requires.within c.in-Payload.partition c.in-Payload.payload gone in
    arrival-next r w i (taken_with r w i rows n) (row_at rows n) c.args.table.now c.args.shares.now c.query-query.ensures.takes_turns at c.requires.within c.in-Payload.partition (payload_read (input_types r.query) c.in-Payload.payload) left

pub spill_waiting-requires-clause-piece : goal.spill_waiting-requires-clause-piece
spill_waiting-requires-clause-piece g c =
    let r = g.R.Naming.run in
    let w = c.args.shares.now.worker in
    let i = c.args.turn.now.position in
    let rows = c.args.turn.now.rows in
    let n = c.args.row in
    let at = at-row r w i rows n c.requires.there c.requires.turn in
    let gone = (rw c.in-Payload.is at c.insert_lent.ensures.payload) refl in
    let left = gone-read r w i rows n c.args.table.now c.args.shares.now c.query-query.ensures.takes_turns c.requires.turn c.requires.there c.requires.within c.in-Payload.partition c.in-Payload.payload gone in
    piece-next r w i (taken_with r w i rows n) (row_at rows n) c.args.table.now c.args.shares.now c.query-query.ensures.takes_turns at c.requires.within c.in-Payload.partition (payload_read (input_types r.query) c.in-Payload.payload) left

pub spill_waiting-requires-clause-typed : goal.spill_waiting-requires-clause-typed
spill_waiting-requires-clause-typed g c =
    let packed = rw c.in-Payload.is at c.insert_lent.ensures.packed in
    subst (λ (h : Shape). AreWaiting h.input_types c.in-Payload.payload) c.requires.within.table.shape packed.typed

pub returns-in-Done-clause-ok : goal.returns-in-Done-clause-ok
returns-in-Done-clause-ok g c =
    row-ends g.R.Naming.run c.args.shares.now.worker c.args.turn.now.position c.args.turn.now.rows c.args.row c.args.table.now c.args.shares.now c.query-query.ensures.takes_turns c.requires.turn c.requires.there c.requires.within
    c.insert_lent.new.self ((rw c.in-Done.is at c.insert_lent.ensures.payload) refl) ((rw c.in-Done.is at c.insert_lent.ensures.taken) refl)

pub returns-in-Memory-clause-err : goal.returns-in-Memory-clause-err
returns-in-Memory-clause-err g c =
    turn-stopped g.R.Naming.run c.args.shares.now.worker c.args.turn.now.position c.args.turn.now.rows c.args.row c.args.table.now c.args.shares.now c.query-query.ensures.takes_turns c.requires.turn c.requires.within

pub returns-in-Ok-clause-ok : goal.returns-in-Ok-clause-ok
returns-in-Ok-clause-ok g c =
    row-leaves g.R.Naming.run c.args.shares.now.worker c.args.turn.now.position c.args.turn.now.rows c.args.row c.args.table.now c.args.shares.now c.query-query.ensures.takes_turns c.requires.turn c.requires.there c.requires.within
    c.insert_lent.new.self c.spill_waiting.new.shares _ (payload_read c.args.table.now.table.shape.input_types c.in-Payload.payload)
    ((rw c.in-Payload.is at c.insert_lent.ensures.payload) refl) ((rw c.in-Payload.is at c.insert_lent.ensures.taken) refl) c.in-Ok.ensures.ok c.worker-worker.ensures.shares

pub returns-in_default-clause-err : goal.returns-in_default-clause-err
returns-in_default-clause-err g c =
    subst (λ (s : SharesSeen). AreSharesAtStop g.R.Naming.run c.args.shares.now.worker stop.Memory s) (sym c.in_default.ensures.err)
    (turn-stopped g.R.Naming.run c.args.shares.now.worker c.args.turn.now.position c.args.turn.now.rows c.args.row c.args.table.now c.args.shares.now c.query-query.ensures.takes_turns c.requires.turn c.requires.within)
