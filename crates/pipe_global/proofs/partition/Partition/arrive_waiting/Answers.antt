use Rattle.std.proofs.Common.{◌≡◌, ◌+◌, ◌++◌, ◌<◌, ◌^◌, ◌∙◌, List, arith, refl, sym, subst, length, length-append, [], ◌∷◌, ap}
use Rattle.pipe_aggs.specs.CheckedQuery.{input_types}
use Rattle.pipe_columns.specs.declared.data_type.DataType.{DataType}
use Rattle.pipe_plan.specs.declared.event.PartitionEvent.TheVariants as event
use Rattle.pipe_spill.specs.SpillRow.{Payload}
use Rattle.pipe_groups.specs.Shape.{Shape}
use Rattle.pipe_waiting.specs.Waiting.{AreWaiting, payload_read, waiting_rows}
use Rattle.pipe_global.specs.Partition.{IsCounted, IsReplayed, PartitionSeen}
use Rattle.pipe_global.specs.Steps.{with_payload}
use Rattle.pipe_global.proofs.Keeping.{arrive-few, arrive-next, book-few, counted-same, share-few}
use Rattle.pipe_global.proofs.Waited.{one-count}
use Rattle.pipe_global.proofs.partition.Partition.arrive_waiting.Goals as goal

pub arrive-requires-clause-exists : goal.arrive-requires-clause-exists
arrive-requires-clause-exists g c = omega (arith, c.self.invariant.1.workers, c.worker-worker.ensures.in_run)

pub arrive-requires-clause-room : goal.arrive-requires-clause-room
arrive-requires-clause-room g c =
    book-few g.R.Naming.run c.self.inside.contents.number c.self.inside.contents c.self.invariant.0 c.self.invariant.1
    c.worker-worker.result c.events-events.result c.worker-worker.ensures.in_run c.events-events.ensures.is c.events-events.ensures.small

pub arrive-requires-clause-few : goal.arrive-requires-clause-few
arrive-requires-clause-few g c =
    let T : List DataType = c.self.inside.contents.table.shape.input_types in
    let own : payload_read T c.args.rows ≡ payload_read (input_types g.R.Naming.run.query) c.args.rows = ap (λ (x : Shape). payload_read x.input_types c.args.rows) c.self.invariant.1.shape in
    let few : c.self.inside.contents.arrived + length (waiting_rows T c.args.rows) < 2 ^ 64 =
    arrive-few g.R.Naming.run c.self.inside.contents c.args.self.now c.args.shares.now c.worker-worker.result c.self.view_is c.worker-worker.ensures.is c.worker-worker.ensures.in_run
    c.self.invariant.0 c.self.invariant.1 c.requires.same (payload_read T c.args.rows) c.requires.next (own ∙ c.requires.piece) in
    omega (arith, few, one-count T c.args.rows)

pub arrive-requires-clause-typed : goal.arrive-requires-clause-typed
arrive-requires-clause-typed g c = subst (λ (x : Shape). AreWaiting x.input_types c.args.rows) (sym c.self.invariant.1.shape) c.requires.typed

pub returns-clause-waiting : goal.returns-clause-waiting
returns-clause-waiting g c =
    let T : List DataType = input_types g.R.Naming.run.query in
    let own : payload_read c.self.inside.contents.table.shape.input_types c.args.rows ≡ payload_read T c.args.rows = ap (λ (x : Shape). payload_read x.input_types c.args.rows) c.self.invariant.1.shape in
    ap (λ (x : PartitionSeen). x.waiting) c.in_ok-arrive.ensures.ok
    ∙ ap (λ (p : Payload). c.self.inside.contents.waiting ++ p ∷ []) own
    ∙ ap (λ (x : PartitionSeen). x.waiting ++ payload_read T c.args.rows ∷ []) c.self.view_is

pub raise-requires-clause-room : goal.raise-requires-clause-room
raise-requires-clause-room g c =
    share-few g.R.Naming.run c.self.inside.contents c.args.self.now c.args.shares.now c.worker-worker.result c.self.view_is c.worker-worker.ensures.is c.worker-worker.ensures.in_run
    c.self.invariant.0 c.self.invariant.1 c.requires.same c.number-partition.result c.events-events.result c.number-partition.ensures c.events-events.ensures.is c.events-events.ensures.small

pub invariant_of-self-2 : goal.invariant_of-self-2
invariant_of-self-2 g c =
    let r = g.R.Naming.run in
    let s = c.self.inside.contents in
    let w = c.worker-worker.result in
    let payload : Payload = payload_read s.table.shape.input_types c.args.rows in
    let own : payload ≡ payload_read (input_types r.query) c.args.rows = ap (λ (x : Shape). payload_read x.input_types c.args.rows) c.self.invariant.1.shape in
    let ok : c.arrive.new.self ≡ with_payload s w payload = c.in_ok-arrive.ensures.ok in
    let replayed : IsReplayed r s.number (with_payload s w payload) =
    arrive-next r s c.args.self.now c.args.shares.now w c.self.view_is c.worker-worker.ensures.is c.worker-worker.ensures.in_run
    c.self.invariant.0 c.self.invariant.1 c.requires.same payload c.requires.next (own ∙ c.requires.piece) in
    let long : length c.arrive.new.self.journal ≡ length s.journal + 1 = ap (λ (x : PartitionSeen). length x.journal) ok ∙ length-append s.journal (event.Arrive w ∷ []) in (
      c.self.invariant.0,
      subst (λ (x : PartitionSeen). IsReplayed r x.number x) (sym ok) replayed,
      subst (λ (x : PartitionSeen). IsCounted r c.self.inside.fault_part.amount x) (sym ok)
          (counted-same r c.self.inside.fault_part.amount s (with_payload s w payload) refl refl refl c.self.invariant.2),
      c.self.invariant.3,
      c.raise.ensures.part.0,
      omega (arith, c.raise.ensures.part.1, c.self.invariant.5, long),
      c.self.invariant.6,
    )
