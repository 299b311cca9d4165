-- What waits in a partition is sent.
use Rattle.std.proofs.Common.{rules, ◌≡◌, ◌≢◌, [], subst, sym}
use Rattle.std.proofs.lemmas.Bool.{false≢true}
use Rattle.pipe_aggs.specs.CheckedQuery.{input_types}
use Rattle.pipe_groups.specs.Shape.{Shape}
use Rattle.pipe_waiting.specs.Waiting.{AreWaiting, payload_read, waiting_rows}
use Rattle.pipe_tables.specs.Buffers.{waiting_in}
use Rattle.pipe_global.specs.Shares.{SharesSeen}
use Rattle.pipe_workers.specs.declared.stop.WorkerStop.TheVariants as stop
use Rattle.pipe_workers.specs.Turns.{AreSharesAtStop}
use Rattle.pipe_workers.proofs.Closings.{closing-none-at, closing-sent-at, closing-stopped, rest-is-next, rest-is-piece}
use Rattle.pipe_workers.proofs.close.send_rest.Goals as goal

pub returns-in_default-clause-ok : goal.returns-in_default-clause-ok
returns-in_default-clause-ok g c =
    let none : waiting_in c.args.partition c.args.table.now.buffers ≡ [] = search rules in
    closing-none-at g.R.Naming.run c.args.shares.now.worker c.args.partition c.args.table.now c.rest.new.self c.args.shares.now c.query-query.ensures.takes_turns c.requires.closed_run c.requires.exists c.requires.closing none c.in_ok-left.ensures.emptied

pub spill_waiting-requires-clause-next : goal.spill_waiting-requires-clause-next
spill_waiting-requires-clause-next g c =
    let r = g.R.Naming.run in
    let waiting = waiting_in c.args.partition c.args.table.now.buffers in
    let rows = subst (λ (h : Shape). waiting_rows h.input_types c.in-Some.payload ≡ waiting) c.requires.closing.shape (rw c.in-Some.is at c.in_ok-left.ensures.rows) in
    let some : waiting ≢ [] = λ e. false≢true (sym (rw c.in-Some.is at (c.in_ok-left.ensures.none.1 e))) in
    rest-is-next r c.args.shares.now.worker c.args.partition c.args.table.now c.args.shares.now c.query-query.ensures.takes_turns c.requires.closed_run c.requires.exists c.requires.closing
    (payload_read (input_types r.query) c.in-Some.payload) rows some

pub spill_waiting-requires-clause-piece : goal.spill_waiting-requires-clause-piece
spill_waiting-requires-clause-piece g c =
    let r = g.R.Naming.run in
    let waiting = waiting_in c.args.partition c.args.table.now.buffers in
    let rows = subst (λ (h : Shape). waiting_rows h.input_types c.in-Some.payload ≡ waiting) c.requires.closing.shape (rw c.in-Some.is at c.in_ok-left.ensures.rows) in
    let some : waiting ≢ [] = λ e. false≢true (sym (rw c.in-Some.is at (c.in_ok-left.ensures.none.1 e))) in
    rest-is-piece r c.args.shares.now.worker c.args.partition c.args.table.now c.args.shares.now c.query-query.ensures.takes_turns c.requires.closed_run c.requires.exists c.requires.closing
    (payload_read (input_types r.query) c.in-Some.payload) rows some

pub spill_waiting-requires-clause-typed : goal.spill_waiting-requires-clause-typed
spill_waiting-requires-clause-typed g c =
    let packed = rw c.in-Some.is at c.in_ok-left.ensures.packed in
    subst (λ (h : Shape). AreWaiting h.input_types c.in-Some.payload) c.requires.closing.shape packed.typed

pub returns-in_default-spill_waiting-clause-err : goal.returns-in_default-spill_waiting-clause-err
returns-in_default-spill_waiting-clause-err g c =
    subst (λ (s : SharesSeen). AreSharesAtStop g.R.Naming.run c.args.shares.now.worker stop.Memory s) (sym c.in_default-spill_waiting.ensures.err)
    (closing-stopped g.R.Naming.run c.args.shares.now.worker c.args.partition c.args.table.now c.args.shares.now c.query-query.ensures.takes_turns c.requires.closed_run c.requires.exists c.requires.closing)

pub returns-clause-ok : goal.returns-clause-ok
returns-clause-ok g c =
    let r = g.R.Naming.run in
    let waiting = waiting_in c.args.partition c.args.table.now.buffers in
    let rows = subst (λ (h : Shape). waiting_rows h.input_types c.in-Some.payload ≡ waiting) c.requires.closing.shape (rw c.in-Some.is at c.in_ok-left.ensures.rows) in
    let some : waiting ≢ [] = λ e. false≢true (sym (rw c.in-Some.is at (c.in_ok-left.ensures.none.1 e))) in
    closing-sent-at r c.args.shares.now.worker c.args.partition c.args.table.now c.rest.new.self c.args.shares.now c.spill_waiting.new.shares c.query-query.ensures.takes_turns c.requires.closed_run c.requires.exists c.requires.closing
    (payload_read (input_types r.query) c.in-Some.payload) rows some c.worker-worker.ensures.shares c.in_ok-left.ensures.emptied c.in-Ok.ensures.ok
