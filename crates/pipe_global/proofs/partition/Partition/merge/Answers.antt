use Rattle.std.proofs.Common.{◌≡◌, ◌+◌, ◌∙◌, arith, sym, subst, length, length-append, [], ◌∷◌, ap}
use Rattle.pipe_plan.specs.declared.event.PartitionEvent.TheVariants as event
use Rattle.pipe_global.specs.Partition.{IsReplayed, PartitionSeen}
use Rattle.pipe_global.specs.Steps.{IsMerged}
use Rattle.pipe_global.specs.Refused.{IsKeptBut}
use Rattle.pipe_global.proofs.Keeping.{book-few, can-merge, counted-same, merge-next, share-few}
use Rattle.pipe_global.proofs.ReplayFacts.{replayed-kept}
use Rattle.pipe_global.proofs.partition.Partition.merge.Goals as goal

pub merge-requires-clause-exists : goal.merge-requires-clause-exists
merge-requires-clause-exists g c = omega (arith, c.self.invariant.1.workers, c.worker-worker.ensures.in_run)

pub merge-requires-clause-room : goal.merge-requires-clause-room
merge-requires-clause-room g c =
    book-few g.R.Naming.run c.self.inside.contents.number c.self.inside.contents c.self.invariant.0 c.self.invariant.1
    c.worker-worker.result c.events-events.result c.worker-worker.ensures.in_run c.events-events.ensures.is c.events-events.ensures.small

pub merge-requires-clause-rows : goal.merge-requires-clause-rows
merge-requires-clause-rows g c = can-merge g.R.Naming.run c.self.inside.contents.number c.self.inside.contents c.self.invariant.0 c.self.invariant.1

pub raise-requires-clause-room : goal.raise-requires-clause-room
raise-requires-clause-room g c =
    share-few g.R.Naming.run c.self.inside.contents c.args.self.now c.args.shares.now c.worker-worker.result c.self.view_is c.worker-worker.ensures.is c.worker-worker.ensures.in_run
    c.self.invariant.0 c.self.invariant.1 c.requires.same c.number-partition.result c.events-events.result c.number-partition.ensures c.events-events.ensures.is c.events-events.ensures.small

pub invariant_of-self-2 : goal.invariant_of-self-2
invariant_of-self-2 g c =
    let r = g.R.Naming.run in
    let s = c.self.inside.contents in
    let new = c.merge.new.self in
    let w = c.worker-worker.result in
    let ok : IsMerged s w new = c.in_ok-merge.ensures.ok in
    let number : new.number ≡ s.number = ap (λ (x : PartitionSeen). x.number) ok.others in
    let faults : new.store.faults ≡ s.store.faults = ap (λ (x : PartitionSeen). x.store.faults) ok.others in
    let replayed : IsReplayed r s.number new =
    merge-next r s c.args.self.now c.args.shares.now w c.self.view_is c.worker-worker.ensures.is c.worker-worker.ensures.in_run
    c.self.invariant.0 c.self.invariant.1 c.requires.same new c.requires.next ok in
    let long : length new.journal ≡ length s.journal + 1 = ap (λ (x : PartitionSeen). length x.journal) ok.others ∙ length-append s.journal (event.Merge w ∷ []) in (
      c.self.invariant.0,
      subst (λ n. IsReplayed r n new) (sym number) replayed,
      counted-same r c.self.inside.fault_part.amount s new number (ap (λ (x : PartitionSeen). x.failed) ok.others) faults c.self.invariant.2,
      c.self.invariant.3,
      c.raise.ensures.part.0,
      omega (arith, c.raise.ensures.part.1, c.self.invariant.5, long),
      c.self.invariant.6,
    )

-- want of memory changes nothing but room
pub invariant_of-self : goal.invariant_of-self
invariant_of-self g c =
    let r = g.R.Naming.run in
    let s = c.self.inside.contents in
    let new = c.merge.new.self in
    let kept : IsKeptBut s new s.failed = c.in_err-merge.ensures.err in
    let number : new.number ≡ s.number = ap (λ (x : PartitionSeen). x.number) kept.others in (
      c.self.invariant.0,
      subst (λ n. IsReplayed r n new) (sym number) (replayed-kept r s.number s new s.failed c.self.invariant.1 kept),
      counted-same r c.self.inside.fault_part.amount s new number (ap (λ (x : PartitionSeen). x.failed) kept.others) c.in_err-merge.ensures.err_faults c.self.invariant.2,
      c.self.invariant.3,
      c.self.invariant.4,
      c.self.invariant.5 ∙ ap (λ (x : PartitionSeen). length x.journal) (sym kept.others),
      c.self.invariant.6,
    )
