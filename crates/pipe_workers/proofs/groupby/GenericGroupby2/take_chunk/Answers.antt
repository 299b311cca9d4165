use Rattle.std.proofs.Common.{◌≡◌, ◌≢◌, ◌∙◌, ◌+◌, ◌%◌, ◌/◌, List, ap, sym}
use Rattle.std.specs.List.{slice_index_or}
use Rattle.pipe_columns.specs.declared.data_chunk.DataChunk.{DataChunk}
use Rattle.pipe_plan.specs.Plan.{turn_action}
use Rattle.pipe_workers.specs.Workers.{WorkerSeen}
use Rattle.pipe_workers.proofs.Sinking.{chunk-action, chunk-is, chunk-passed, chunk-ready, chunk-taken}
use Rattle.pipe_workers.proofs.groupby.GenericGroupby2.take_chunk.Goals as goal

pub returns-then-position-workers-clause-ready : goal.returns-then-position-workers-clause-ready
returns-then-position-workers-clause-ready g c =
    let x = c.args.self.now in
    let m = c.workers-workers.result in
    let v = c.worker-worker.result in
    let worker : v ≡ x.shares.worker = c.worker-worker.ensures.is ∙ ap (λ (w : WorkerSeen). w.shares.worker) c.self.view_is in
    let other : (c.args.round.now.first + c.args.number) % m ≢ v = λ e. c.if-position-workers.true (ap (λ n. (n + c.args.number) % m) c.first.ensures ∙ e) in
    chunk-passed g.R.Naming.run c.args.round.now c.requires.round c.args.number c.requires.there x c.workers-workers.ensures.takes_turns c.requires.ready m v c.workers-workers.ensures.is worker other

pub sink-requires-clause-ready : goal.sink-requires-clause-ready
sink-requires-clause-ready g c =
    let x = c.args.self.now in
    let m = c.workers-workers.result in
    let v = c.worker-worker.result in
    let worker : v ≡ x.shares.worker = c.worker-worker.ensures.is ∙ ap (λ (w : WorkerSeen). w.shares.worker) c.self.view_is in
    let mine : (c.args.round.now.first + c.args.number) % m ≡ v = ap (λ n. (n + c.args.number) % m) (sym c.first.ensures) ∙ c.if-position-workers.false in
    chunk-ready g.R.Naming.run c.args.round.now c.requires.round c.args.number c.requires.there x c.workers-workers.ensures.takes_turns c.requires.ready m v c.workers-workers.ensures.is worker mine

pub sink-requires-clause-chunk : goal.sink-requires-clause-chunk
sink-requires-clause-chunk g c =
    let x = c.args.self.now in
    let m = c.workers-workers.result in
    let v = c.worker-worker.result in
    let worker : v ≡ x.shares.worker = c.worker-worker.ensures.is ∙ ap (λ (w : WorkerSeen). w.shares.worker) c.self.view_is in
    let mine : (c.args.round.now.first + c.args.number) % m ≡ v = ap (λ n. (n + c.args.number) % m) (sym c.first.ensures) ∙ c.if-position-workers.false in
    chunk-is g.R.Naming.run c.args.round.now c.requires.round c.args.number c.requires.there x c.workers-workers.ensures.takes_turns c.requires.ready m v c.workers-workers.ensures.is worker mine c.index-chunks-number.result
    (c.index-chunks-number.is ∙ ap (λ (l : List DataChunk). slice_index_or l c.args.number c.index-chunks-number.result) c.chunks.ensures)

pub sink-requires-clause-action : goal.sink-requires-clause-action
sink-requires-clause-action g c =
    let x = c.args.self.now in
    let m = c.workers-workers.result in
    let v = c.worker-worker.result in
    let worker : v ≡ x.shares.worker = c.worker-worker.ensures.is ∙ ap (λ (w : WorkerSeen). w.shares.worker) c.self.view_is in
    let mine : (c.args.round.now.first + c.args.number) % m ≡ v = ap (λ n. (n + c.args.number) % m) (sym c.first.ensures) ∙ c.if-position-workers.false in
    chunk-action g.R.Naming.run c.args.round.now c.requires.round c.args.number c.requires.there x c.workers-workers.ensures.takes_turns c.requires.ready m v c.workers-workers.ensures.is worker mine c.action-action.result
    (c.action-action.ensures ∙ ap (λ n. turn_action c.args.round.now.actions c.args.round.now.rules v ((n + c.args.number) / m)) c.first.ensures)

pub returns-clause-ready : goal.returns-clause-ready
returns-clause-ready g c =
    let x = c.args.self.now in
    let m = c.workers-workers.result in
    let v = c.worker-worker.result in
    let worker : v ≡ x.shares.worker = c.worker-worker.ensures.is ∙ ap (λ (w : WorkerSeen). w.shares.worker) c.self.view_is in
    let mine : (c.args.round.now.first + c.args.number) % m ≡ v = ap (λ n. (n + c.args.number) % m) (sym c.first.ensures) ∙ c.if-position-workers.false in
    chunk-taken g.R.Naming.run c.args.round.now c.requires.round c.args.number c.requires.there x c.workers-workers.ensures.takes_turns c.requires.ready m v c.workers-workers.ensures.is worker mine c.sink.new.self c.in_ok-sink.ensures.ready
