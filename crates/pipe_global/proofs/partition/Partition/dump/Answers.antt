use Rattle.std.proofs.Common.{◌≡◌, ◌+◌, ◌∙◌, arith, sym, subst, length, length-append, [], ◌∷◌, ap, true, rules}
use Rattle.pipe_plan.specs.declared.event.PartitionEvent.TheVariants as event
use Rattle.pipe_global.specs.declared.dump_error.DumpError.TheVariants as dump_error
use Rattle.pipe_global.specs.Partition.{IsReplayed, PartitionSeen}
use Rattle.pipe_global.specs.Steps.{IsDumped}
use Rattle.pipe_global.specs.Refused.{IsKeptBut}
use Rattle.pipe_global.proofs.Keeping.{book-few, counted-refused, counted-same, dump-next, share-few, waiting-few}
use Rattle.pipe_global.proofs.ReplayFacts.{replayed-kept}
use Rattle.pipe_global.proofs.partition.Partition.dump.Goals as goal

pub dump-requires-clause-exists : goal.dump-requires-clause-exists
dump-requires-clause-exists g c = omega (arith, c.self.invariant.1.workers, c.worker-worker.ensures.in_run)

pub dump-requires-clause-room : goal.dump-requires-clause-room
dump-requires-clause-room g c =
    book-few g.R.Naming.run c.self.inside.contents.number c.self.inside.contents c.self.invariant.0 c.self.invariant.1
    c.worker-worker.result c.events-events.result c.worker-worker.ensures.in_run c.events-events.ensures.is c.events-events.ensures.small

pub dump-requires-clause-few : goal.dump-requires-clause-few
dump-requires-clause-few g c = waiting-few g.R.Naming.run c.self.inside.contents.number c.self.inside.contents c.self.invariant.0 c.self.invariant.1

pub dump-requires-clause-numbers : goal.dump-requires-clause-numbers
dump-requires-clause-numbers g c = c.self.invariant.1.numbers

pub raise-requires-clause-room : goal.raise-requires-clause-room
raise-requires-clause-room g c =
    share-few g.R.Naming.run c.self.inside.contents c.args.self.now c.args.shares.now c.worker-worker.result c.self.view_is c.worker-worker.ensures.is c.worker-worker.ensures.in_run
    c.self.invariant.0 c.self.invariant.1 c.requires.same c.number-partition.result c.events-events.result c.number-partition.ensures c.events-events.ensures.is c.events-events.ensures.small

pub invariant_of-self-2 : goal.invariant_of-self-2
invariant_of-self-2 g c =
    let r = g.R.Naming.run in
    let s = c.self.inside.contents in
    let new = c.dump.new.self in
    let w = c.worker-worker.result in
    let ok : IsDumped c.self.inside.limit s w new = c.in-Ok.ensures.ok in
    let number : new.number ≡ s.number = ap (λ (x : PartitionSeen). x.number) ok.others in
    let replayed : IsReplayed r s.number new =
    dump-next r s c.args.self.now c.args.shares.now w c.self.view_is c.worker-worker.ensures.is c.worker-worker.ensures.in_run
    c.self.invariant.0 c.self.invariant.1 c.requires.same new c.self.inside.limit c.events-more.result c.requires.next c.self.invariant.3 ok c.events-more.ensures.is c.events-more.ensures.small in
    let long : length new.journal ≡ length s.journal + 1 = ap (λ (x : PartitionSeen). length x.journal) ok.others ∙ length-append s.journal (event.Dump w ∷ []) in (
      c.self.invariant.0,
      subst (λ n. IsReplayed r n new) (sym number) replayed,
      counted-same r c.self.inside.fault_part.amount s new number (ap (λ (x : PartitionSeen). x.failed) ok.others) ok.store.faults c.self.invariant.2,
      c.self.invariant.3,
      c.raise.ensures.part.0,
      omega (arith, c.raise.ensures.part.1, c.self.invariant.5, long),
      c.self.invariant.6,
    )

-- a put was refused
pub invariant_of-self : goal.invariant_of-self
invariant_of-self g c =
    let r = g.R.Naming.run in
    let s = c.self.inside.contents in
    let new = c.dump.new.self in
    let store : c.in-Err-Store.field-0 ≡ dump_error.Store = search rules in
    let refused = c.in-Err-Store.ensures.store store in
    let kept : IsKeptBut s new true = refused.0 in
    let number : new.number ≡ s.number = ap (λ (x : PartitionSeen). x.number) kept.others in (
      c.self.invariant.0,
      subst (λ n. IsReplayed r n new) (sym number) (replayed-kept r s.number s new true c.self.invariant.1 kept),
      counted-refused r c.self.inside.fault_part.amount c.refuse.new.part.amount s new number (ap (λ (x : PartitionSeen). x.failed) kept.others) kept.store.faults refused.1 c.refuse.ensures.part.1 c.self.invariant.2,
      c.self.invariant.3,
      c.self.invariant.4,
      c.self.invariant.5 ∙ ap (λ (x : PartitionSeen). length x.journal) (sym kept.others),
      c.refuse.ensures.part.0,
    )
