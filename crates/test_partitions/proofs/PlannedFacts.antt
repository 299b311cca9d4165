-- The run of tests: the calls of its plan, and that its second partition can give its groups.
use Rattle.std.proofs.Common.{rules, ◌≡◌, ◌∙◌, ◌<◌, ◌^◌, ◌+◌, ℕ, Bool, Option, List, [], ◌∷◌, ◌++◌, Some, length, length-append, refl, sym, ap, subst, arith}
use Rattle.std.specs.List.{All, slice_index_or}
use Rattle.std.proofs.lemmas.List.{length-map}
use Rattle.std.proofs.lemmas.List.Elements.{All-map, All-nil, All-weaker}
use Rattle.pipe_model.specs.Query.{QueryTree}
use Rattle.pipe_plan.specs.declared.event.PartitionEvent.TheVariants as event
use Rattle.pipe_plan.specs.Replay.{replay}
use Rattle.pipe_plan.specs.Run.{Run, StoreSeen}
use Rattle.pipe_plan.specs.Stores.{stores_seen}
use Rattle.pipe_plan.specs.Whole.{rows_of}
use Rattle.pipe_plan.specs.WorkedRuns.{sum_by_number}
use Rattle.pipe_spill.specs.SpillRow.{IsRow, Payload}
use Rattle.pipe_spill.specs.Store.{HasHeld}
use Rattle.pipe_groups.specs.Groups.{Group}
use Rattle.pipe_groups.specs.Holds.{Holds}
use Rattle.pipe_groups.specs.Shape.{shape_of}
use Rattle.pipe_groups.proofs.HoldFacts.{holds-none}
use Rattle.pipe_keyed.specs.Tables.{Table}
use Rattle.pipe_global.specs.Closed.{AreClosed, IsClosed}
use Rattle.pipe_global.specs.Finishing.{CanFinish}
use Rattle.pipe_global.specs.Next.{next_event, next_payload}
use Rattle.pipe_global.specs.Opening.{AreUnused, no_shares}
use Rattle.pipe_global.specs.Partition.{IsRunnable, PartitionSeen}
use Rattle.pipe_global.specs.Shares.{refused_puts_in, next_pick, SharesSeen}
use Rattle.pipe_global.proofs.ClosedFacts.{finish-replayed}
use Rattle.pipe_global.proofs.RunFacts.{rows-few}
use Rattle.test_partitions.specs.PlannedRuns.{HasEnded, payload_at, second_shares, second_spills}

-- ---- the run

-- it can be made over two stores without a frame
pub runnable : (stores : List StoreSeen) → length stores ≡ 2 → All (λ s. s.held ≡ 0) stores → IsRunnable (second_spills stores)
runnable stores count empty = record {
  limits = search rules;
  query = search rules;
  typed = search rules;
  few = search rules;
  stores = count;
  former = All-weaker (λ (s : StoreSeen). s.held ≡ 0) (λ (s : StoreSeen). s.held < 2 ^ 63) (λ s none. omega (arith, none)) stores empty;
}

-- ---- the stores

module _ {S : Type 0} (held : S → ℕ) (told : S → Option (List (List ℕ))) (faults : S → ℕ) (sure : S → Bool) (path : S → Option (List ℕ)) (xs : List S) where
  -- as many as there are
  pub count-seen : length xs ≡ 2 → length (stores_seen held told faults sure path xs) ≡ 2
  count-seen two = length-map xs (λ (s : S). record { held = held s; told = told s; faults = faults s; sure = sure s; path = path s }) ∙ two

  -- and as empty
  pub empty-seen : All (λ s. held s ≡ 0) xs → All (λ s. s.held ≡ 0) (stores_seen held told faults sure path xs)
  empty-seen none = All-map (λ (s : StoreSeen). s.held ≡ 0) (λ (s : S). record { held = held s; told = told s; faults = faults s; sure = sure s; path = path s }) xs none

-- ---- the shares

-- those of the second worker count nothing
pub opened : (r : Run) (stores : List StoreSeen) (shares : List SharesSeen) (s : SharesSeen) → r ≡ second_spills stores → length shares ≡ r.limits.workers → AreUnused r.limits.partitions shares → s ≡ slice_index_or shares 1 s → s ≡ second_shares 0
opened r stores shares s run count unused at =
    let two : r.limits.workers ≡ 2 = ap (λ (q : Run). q.limits.workers) run in
    at ∙ unused 1 s (omega (arith, count, two)) ∙ ap (λ (q : Run). no_shares q.limits.partitions 1) run

-- ---- the calls

module _ (r : Run) (stores : List StoreSeen) (s : SharesSeen) (run : r ≡ second_spills stores) where
  pub exists : 1 < r.limits.partitions
  exists = subst (λ (q : Run). 1 < q.limits.partitions) (sym run) (omega arith)

  -- a row arrives first
  pub first-event : s ≡ second_shares 0 → next_event r s 1 ≡ Some (event.Arrive s.worker)
  first-event at = (λ i. next_event (run i) (at i) 1) ∙ sym (ap (λ (t : SharesSeen). Some (event.Arrive t.worker)) at)

  pub first-payload : (p : Payload) → p ≡ payload_at 1 6 → s ≡ second_shares 0 → p ≡ next_payload r s 1
  first-payload p is at = is ∙ sym (λ i. next_payload (run i) (at i) 1)

  -- then another
  pub second-event : s ≡ second_shares 1 → next_event r s 1 ≡ Some (event.Arrive s.worker)
  second-event at = (λ i. next_event (run i) (at i) 1) ∙ sym (ap (λ (t : SharesSeen). Some (event.Arrive t.worker)) at)

  pub second-payload : (p : Payload) → p ≡ payload_at 2 7 → s ≡ second_shares 1 → p ≡ next_payload r s 1
  second-payload p is at = is ∙ sym (λ i. next_payload (run i) (at i) 1)

  -- and a dump, which the worker picks in the second partition
  pub third-event : s ≡ second_shares 2 → next_event r s (next_pick r.limits.partitions s) ≡ Some (event.Dump s.worker)
  third-event at = (λ i. next_event (run i) (at i) (next_pick (run i).limits.partitions (at i))) ∙ sym (ap (λ (t : SharesSeen). Some (event.Dump t.worker)) at)

  pub no-fault : s ≡ second_shares 2 → refused_puts_in s (next_pick r.limits.partitions s) ≡ 0
  no-fault at = λ i. refused_puts_in (at i) (next_pick (run i).limits.partitions (at i))

-- ---- the end

-- the last of two is the second
last-of-two : {A : Type 0} (front : List A) (x d : A) → length (front ++ x ∷ []) ≡ 2 → slice_index_or (front ++ x ∷ []) 1 d ≡ x
last-of-two [] x d two = absurd (omega (arith, two))
last-of-two (y ∷ []) x d two = refl
last-of-two (y ∷ z ∷ front) x d two = absurd (omega (arith, two, length-append front (x ∷ [])))

-- the last partition has ended with the run
pub ended : (r : Run) (stores : List StoreSeen) (ps front : List PartitionSeen) (x : PartitionSeen) → r ≡ second_spills stores → length stores ≡ 2 → All (λ s. s.held ≡ 0) stores
    → ps ≡ front ++ x ∷ [] → length ps ≡ 2 → AreClosed r ps → HasEnded x
ended r stores ps front x run count empty popped two closed =
    let long : length (front ++ x ∷ []) ≡ 2 = sym (ap (λ (l : List PartitionSeen). length l) popped) ∙ two in
    let own : AreClosed (second_spills stores) (front ++ x ∷ []) = subst (λ (q : Run). AreClosed q (front ++ x ∷ [])) run (subst (AreClosed r) popped closed) in
    let at : IsClosed (second_spills stores) 1 x = subst (IsClosed (second_spills stores) 1) (last-of-two front x x long) (own 1 x (omega (arith, long))) in
    record { run = second_spills stores; runnable = runnable stores count empty; replayed = at.replayed; query = refl }

-- with a local table of no row it can give its groups
pub finish-ended : (s : PartitionSeen) (local : Table) → HasEnded s → HasHeld s.store.told s.store.held → local.shape ≡ shape_of sum_by_number → local.groups ≡ [] → CanFinish s local
finish-ended s local end all shape empty =
    let same : local.shape ≡ s.table.shape = shape ∙ ap (λ (q : QueryTree). shape_of q) (sym end.query) ∙ sym end.replayed.shape in
    let few : length (rows_of (replay end.run 1 s.journal)) + 0 < 2 ^ 32 =
    omega (arith, end.runnable.few, rows-few end.run 1 s.journal end.runnable.limits.workers end.runnable.limits.buffer end.replayed.journal.workers) in
    finish-replayed end.run 1 s end.runnable end.replayed local [] all same
    (subst (λ (gs : List Group). Holds s.table.shape.prototypes gs []) (sym empty) (holds-none s.table.shape.prototypes))
    (All-nil (IsRow s.table.shape.key_types s.table.shape.input_types)) few
