use Rattle.std.proofs.Common.{◌≡◌, ◌∙◌, ◌++◌, ◌≤◌, List, ap, arith, length, map, refl, subst, sym, true, vec_capacity, vec_len}
use Rattle.pipe_columns.specs.declared.data_chunk.DataChunk.{DataChunk}
use Rattle.pipe_plan.specs.declared.event.PartitionEvent.{PartitionEvent}
use Rattle.pipe_global.specs.Partition.{PartitionSeen}
use Rattle.pipe_plan.specs.Run.{StoreSeen}
use Rattle.pipe_run.specs.Answered.{HaveWholeFrames}
use Rattle.pipe_run.specs.Fed.{FedSeen, IsFedRun}
use Rattle.pipe_run.specs.Failing.{NoneFailed}
use Rattle.pipe_run.specs.Feeding.{chunks_reached, IsFeedCause}
use Rattle.pipe_run.specs.Setting.{run_over, Setting}
use Rattle.pipe_run.proofs.FeedEnds.{early-back, early-cause, fed-all}
use Rattle.pipe_run.proofs.run.GenericRun.feed_lent.Goals as goal

-- what is seen of a run
abbrev seen_of : Setting → List DataChunk → List (List PartitionEvent) → List StoreSeen → FedSeen
seen_of x taken journals stores = record { setting = x; chunks = taken; journals = journals; stores = stores }

pub returns-in-Err-clause-back : goal.returns-in-Err-clause-back
returns-in-Err-clause-back g c =
    let x = c.self.inside.begun in
    let taken : List DataChunk = map (λ m. m.value) c.self.inside.chunks.items in
    let journals = map (λ (p : PartitionSeen). p.journal) c.self.inside.closed.items in
    let seen = map (λ (p : PartitionSeen). p.store) c.self.inside.closed.items in
    early-back x taken journals seen c.args.self c.self.view_is (map (λ s. record { held = g.S.SpillStore.held s; told = g.S.SpillStore.told s; faults = g.S.SpillStore.faults s; sure = g.S.SpillStore.sure s; path = g.S.SpillStore.path s }) c.stores_of.result.items)
    c.self.inside.closed.items c.self.inside.rested.items c.self.inside.rows c.self.invariant.0 c.args.chunks.items c.stores_of.ensures

pub returns-in-Err-fed_round-clause-cause : goal.returns-in-Err-fed_round-clause-cause
returns-in-Err-fed_round-clause-cause g c =
    let x = c.self.inside.begun in
    let taken : List DataChunk = map (λ m. m.value) c.self.inside.chunks.items in
    let journals = map (λ (p : PartitionSeen). p.journal) c.self.inside.closed.items in
    let seen = map (λ (p : PartitionSeen). p.store) c.self.inside.closed.items in
    let marks = ap (λ l. map (λ m. m.value) l) (c.deref.ensures.value ∙ c.in-Ok.ensures.same) in
    let stores = (map (λ s. record { held = g.S.SpillStore.held s; told = g.S.SpillStore.told s; faults = g.S.SpillStore.faults s; sure = g.S.SpillStore.sure s; path = g.S.SpillStore.path s }) c.stores_of-in-Err-fed_round.result.items) in
    let after = map (λ (p : PartitionSeen). p.store) c.in-Err-fed_round.closed.items in
    let e = c.in-Err-fed_round.error in
    subst (λ (s : FedSeen). IsFeedCause s c.args.chunks.items stores e) c.self.view_is
    (subst (λ l. IsFeedCause (seen_of x taken journals seen) c.args.chunks.items l e) (sym c.stores_of-in-Err-fed_round.ensures)
    (subst (λ l. IsFeedCause (seen_of x taken journals seen) l after e) c.deref-2.ensures.value
    (subst (λ l. IsFeedCause (seen_of x l journals seen) c.deref-2.result.now after e) marks c.in-Err-fed_round.ensures.cause)))

pub returns-in-Err-fed_round-clause-untouched : goal.returns-in-Err-fed_round-clause-untouched
returns-in-Err-fed_round-clause-untouched g c =
    λ bad. c.stores_of-in-Err-fed_round.ensures ∙ c.in-Err-fed_round.ensures.untouched bad ∙ ap (λ (s : FedSeen). s.stores) c.self.view_is

pub returns-in-Err-fed_round-clause-back : goal.returns-in-Err-fed_round-clause-back
returns-in-Err-fed_round-clause-back g c =
    let x = c.self.inside.begun in
    let taken : List DataChunk = map (λ m. m.value) c.self.inside.chunks.items in
    let journals = map (λ (p : PartitionSeen). p.journal) c.self.inside.closed.items in
    let seen = map (λ (p : PartitionSeen). p.store) c.self.inside.closed.items in
    let marks = ap (λ l. map (λ m. m.value) l) (c.deref.ensures.value ∙ c.in-Ok.ensures.same) in
    let stores = (map (λ s. record { held = g.S.SpillStore.held s; told = g.S.SpillStore.told s; faults = g.S.SpillStore.faults s; sure = g.S.SpillStore.sure s; path = g.S.SpillStore.path s }) c.stores_of-in-Err-fed_round.result.items) in
    let after = map (λ (p : PartitionSeen). p.store) c.in-Err-fed_round.closed.items in
    let e = c.in-Err-fed_round.error in
    subst (λ (s : FedSeen). HaveWholeFrames (run_over s.setting true (chunks_reached s c.args.chunks.items e)) stores) c.self.view_is
    (subst (λ l. HaveWholeFrames (run_over (seen_of x taken journals seen).setting true (chunks_reached (seen_of x taken journals seen) c.args.chunks.items e)) l) (sym c.stores_of-in-Err-fed_round.ensures)
    (subst (λ l. HaveWholeFrames (run_over (seen_of x taken journals seen).setting true (chunks_reached (seen_of x taken journals seen) l e)) after) c.deref-2.ensures.value
    (subst (λ l. HaveWholeFrames (run_over (seen_of x l journals seen).setting true (chunks_reached (seen_of x l journals seen) c.deref-2.result.now e)) after) marks c.in-Err-fed_round.ensures.back)))

pub invariant_of-run : goal.invariant_of-run
invariant_of-run g c =
    let x = c.self.inside.begun in
    let taken : List DataChunk = map (λ m. m.value) c.self.inside.chunks.items in
    let journals = map (λ (p : PartitionSeen). p.journal) c.self.inside.closed.items in
    let seen = map (λ (p : PartitionSeen). p.store) c.self.inside.closed.items in
    let marks = ap (λ l. map (λ m. m.value) l) (c.deref.ensures.value ∙ c.in-Ok.ensures.same) in
    let closed = c.in-Ok-fed_round.fed.closed.items in
    let rested = c.in-Ok-fed_round.fed.rested.items in
    let fed = subst (λ l. IsFedRun x (taken ++ l) closed rested c.in-Ok-fed_round.fed.rows) c.deref-2.ensures.value
    (subst (λ l. IsFedRun x (l ++ c.deref-2.result.now) closed rested c.in-Ok-fed_round.fed.rows) marks c.in-Ok-fed_round.ensures.run) in
    let all = c.with_marks-marks.ensures ∙ ap (λ l. map (λ m. m.value) c.in-Ok.marks.items ++ l) c.deref-3.ensures.value ∙ ap (λ l. map (λ m. m.value) l ++ c.args.chunks.items) c.in-Ok.ensures.same in
    let was : length c.self.inside.closed.items ≡ x.limits.partitions = c.self.invariant.0.fed.partitions.count in
    let is : length closed ≡ x.limits.partitions = fed.fed.partitions.count in
    let room : vec_len c.in-Ok-fed_round.fed.closed ≤ vec_capacity c.self.inside.room = omega (arith, was, is, c.self.invariant.2, c.in-Ok-fed_round.fed.closed.ok.0, c.self.inside.closed.ok.0) in
    (subst (λ l. IsFedRun x l closed rested c.in-Ok-fed_round.fed.rows) (sym all) fed, c.self.invariant.1, room)

pub returns-in-Err-clause-cause : goal.returns-in-Err-clause-cause
returns-in-Err-clause-cause g c =
    let x = c.self.inside.begun in
    let taken : List DataChunk = map (λ m. m.value) c.self.inside.chunks.items in
    let journals = map (λ (p : PartitionSeen). p.journal) c.self.inside.closed.items in
    let seen = map (λ (p : PartitionSeen). p.store) c.self.inside.closed.items in
    early-cause x taken journals seen c.args.self c.self.view_is (map (λ s. record { held = g.S.SpillStore.held s; told = g.S.SpillStore.told s; faults = g.S.SpillStore.faults s; sure = g.S.SpillStore.sure s; path = g.S.SpillStore.path s }) c.stores_of.result.items)
    c.self.inside.closed.items c.self.inside.rested.items c.self.inside.rows c.self.invariant.0 c.args.chunks.items c.stores_of.ensures refl

pub returns-in-Err-clause-untouched : goal.returns-in-Err-clause-untouched
returns-in-Err-clause-untouched g c = λ bad. absurd bad

pub returns-clause-setting : goal.returns-clause-setting
returns-clause-setting g c = ap (λ (s : FedSeen). s.setting) c.self.view_is

pub returns-clause-chunks : goal.returns-clause-chunks
returns-clause-chunks g c =
    let all = c.with_marks-marks.ensures ∙ ap (λ l. map (λ m. m.value) c.in-Ok.marks.items ++ l) c.deref-3.ensures.value ∙ ap (λ l. map (λ m. m.value) l ++ c.args.chunks.items) c.in-Ok.ensures.same in
    all ∙ ap (λ (s : FedSeen). s.chunks ++ c.args.chunks.items) c.self.view_is

pub returns-clause-fed : goal.returns-clause-fed
returns-clause-fed g c =
    let x = c.self.inside.begun in
    let taken : List DataChunk = map (λ m. m.value) c.self.inside.chunks.items in
    let journals = map (λ (p : PartitionSeen). p.journal) c.self.inside.closed.items in
    let seen = map (λ (p : PartitionSeen). p.store) c.self.inside.closed.items in
    let marks = ap (λ l. map (λ m. m.value) l) (c.deref.ensures.value ∙ c.in-Ok.ensures.same) in
    let closed = c.in-Ok-fed_round.fed.closed.items in
    let rested = c.in-Ok-fed_round.fed.rested.items in
    let fed = subst (λ l. IsFedRun x (taken ++ l) closed rested c.in-Ok-fed_round.fed.rows) c.deref-2.ensures.value
    (subst (λ l. IsFedRun x (l ++ c.deref-2.result.now) closed rested c.in-Ok-fed_round.fed.rows) marks c.in-Ok-fed_round.ensures.run) in
    fed-all x taken journals seen c.args.self c.self.view_is seen c.self.inside.closed.items c.self.inside.rested.items c.self.inside.rows c.self.invariant.0 c.args.chunks.items fed.chunks_are

pub returns-clause-counted : goal.returns-clause-counted
returns-clause-counted g c = subst (λ (s : FedSeen). NoneFailed s.stores (map (λ (p : PartitionSeen). p.store) c.in-Ok-fed_round.fed.closed.items)) c.self.view_is c.in-Ok-fed_round.ensures.counted
