use Rattle.std.proofs.Common.{rules, arith, ◌≡◌, ◌<◌, ℕ, length, refl, List, subst, sym, true, false, slice_index_or}
use Rattle.pipe_global.specs.Partition.{PartitionSeen}
use Rattle.pipe_run.proofs.Ended.{all-partitions, closed-calm, closed-rose, closed-stand}
use Rattle.pipe_run.proofs.round.drive.Goals as goal

pub returns-in-Err-clause-back : goal.returns-in-Err-clause-back
returns-in-Err-clause-back g c =
    let count : length c.into_partitions-back.result.items ≡ g.R.Naming.run.limits.partitions = omega (arith, c.into_partitions-back.result.ok.0, c.into_partitions-back.ensures.len) in
    closed-stand g.R.Naming.run c.into_partitions-back.result.items count c.into_partitions-back.ensures.closed

pub returns-in-Err-clause-store : goal.returns-in-Err-clause-store
returns-in-Err-clause-store g c = λ p same.
    let closed : List PartitionSeen = c.into_partitions-back.result.items in
    let count : length closed ≡ g.R.Naming.run.limits.partitions = omega (arith, c.into_partitions-back.result.ok.0, c.into_partitions-back.ensures.len) in
    let lt : p < length closed = subst (λ (l : List PartitionSeen). p < length l) c.as_slice.ensures.value (c.stop_of-stop.ensures.there p same) in
    closed-rose g.R.Naming.run closed p p count c.into_partitions-back.ensures.closed lt
    (λ d. subst (λ (l : List PartitionSeen). (slice_index_or l p d).failed ≡ true) c.as_slice.ensures.value (c.stop_of-stop.ensures.failed p d same))
    (λ k d less. subst (λ (l : List PartitionSeen). (slice_index_or l k d).failed ≡ false) c.as_slice.ensures.value (c.stop_of-stop.ensures.least p k d same less)) refl

pub returns-in-Err-clause-memory : goal.returns-in-Err-clause-memory
returns-in-Err-clause-memory g c = λ same.
    let closed : List PartitionSeen = c.into_partitions-back.result.items in
    closed-calm g.R.Naming.run closed c.into_partitions-back.ensures.closed
    (λ p d lt. subst (λ (l : List PartitionSeen). (slice_index_or l p d).failed ≡ false) c.as_slice.ensures.value (c.stop_of-stop.ensures.memory p d same (subst (λ (l : List PartitionSeen). p < length l) (sym c.as_slice.ensures.value) lt)))

pub returns-in-Some-clause-back : goal.returns-in-Some-clause-back
returns-in-Some-clause-back g c =
    let count : length c.into_partitions-closed.result.items ≡ g.R.Naming.run.limits.partitions = omega (arith, c.into_partitions-closed.result.ok.0, c.into_partitions-closed.ensures.len) in
    closed-stand g.R.Naming.run c.into_partitions-closed.result.items count c.into_partitions-closed.ensures.closed

pub returns-in-Some-clause-store : goal.returns-in-Some-clause-store
returns-in-Some-clause-store g c = λ p same.
    let e : c.in-Some.partition ≡ p = cc in
    let count : length c.into_partitions-closed.result.items ≡ g.R.Naming.run.limits.partitions = omega (arith, c.into_partitions-closed.result.ok.0, c.into_partitions-closed.ensures.len) in
    let lt : c.in-Some.partition < length c.into_partitions-closed.result.items = search rules in
    let fails : (d : PartitionSeen) → (slice_index_or c.into_partitions-closed.result.items c.in-Some.partition d).failed ≡ true = λ d. subst (λ (l : List PartitionSeen). (slice_index_or l c.in-Some.partition d).failed ≡ true) c.deref.ensures.value (c.in-Some.ensures.some.1 d) in
    closed-rose g.R.Naming.run c.into_partitions-closed.result.items c.in-Some.partition p count c.into_partitions-closed.ensures.closed lt fails
    (λ k d less. subst (λ (l : List PartitionSeen). (slice_index_or l k d).failed ≡ false) c.deref.ensures.value (c.in-Some.ensures.least k d less)) e

pub returns-then-not-all-clause-back : goal.returns-then-not-all-clause-back
returns-then-not-all-clause-back g c =
    let count : length c.into_partitions-closed.result.items ≡ g.R.Naming.run.limits.partitions = omega (arith, c.into_partitions-closed.result.ok.0, c.into_partitions-closed.ensures.len) in
    closed-stand g.R.Naming.run c.into_partitions-closed.result.items count c.into_partitions-closed.ensures.closed

pub returns-clause-whole : goal.returns-clause-whole
returns-clause-whole g c =
    let count : length c.into_partitions-closed.result.items ≡ g.R.Naming.run.limits.partitions = omega (arith, c.into_partitions-closed.result.ok.0, c.into_partitions-closed.ensures.len) in
    let workers : length c.in-Ok.gathered.shares.items ≡ g.R.Naming.run.limits.workers = omega (arith, c.in-Ok.gathered.shares.ok.0, c.in-Ok.ensures.len) in
    let all : c.in-Ok.gathered.all ≡ true = search (rules, c.if-not-all.false) in
    let sound : (p : ℕ) (d : PartitionSeen) → p < length c.into_partitions-closed.result.items → (slice_index_or c.into_partitions-closed.result.items p d).failed ≡ false = λ p d lt. subst (λ (l : List PartitionSeen). (slice_index_or l p d).failed ≡ false) c.deref.ensures.value (c.in_default.ensures.none p d (subst (λ (l : List PartitionSeen). p < length l) (sym c.deref.ensures.value) lt)) in
    all-partitions g.R.Naming.run c.into_partitions-closed.result.items c.in-Ok.gathered.shares.items c.requires.run.runnable.limits count workers c.into_partitions-closed.ensures.closed c.into_partitions-closed.ensures.events (c.in-Ok.ensures.whole all) sound

pub returns-clause-ended : goal.returns-clause-ended
returns-clause-ended g c =
    let all : c.in-Ok.gathered.all ≡ true = search (rules, c.if-not-all.false) in
    c.in-Ok.ensures.ended all

pub returns-clause-counted : goal.returns-clause-counted
returns-clause-counted g c =
    closed-calm g.R.Naming.run c.into_partitions-closed.result.items c.into_partitions-closed.ensures.closed
    (λ p d lt. subst (λ (l : List PartitionSeen). (slice_index_or l p d).failed ≡ false) c.deref.ensures.value (c.in_default.ensures.none p d (subst (λ (l : List PartitionSeen). p < length l) (sym c.deref.ensures.value) lt)))

pub returns-then-not-all-clause-memory : goal.returns-then-not-all-clause-memory
returns-then-not-all-clause-memory g c = λ _.
    closed-calm g.R.Naming.run c.into_partitions-closed.result.items c.into_partitions-closed.ensures.closed
    (λ p d lt. subst (λ (l : List PartitionSeen). (slice_index_or l p d).failed ≡ false) c.deref.ensures.value (c.in_default.ensures.none p d (subst (λ (l : List PartitionSeen). p < length l) (sym c.deref.ensures.value) lt)))
