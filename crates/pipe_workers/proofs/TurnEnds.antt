-- A turn begins, ends with its pick, and leads to the next.
use Rattle.std.proofs.Common.{◌≡◌, ◌≢◌, ◌∙◌, ◌+◌, ◌%◌, ◌≤◌, ◌<◌, ◌==◌, ◌&&◌, ℕ, Bool, true, false, List, [], ◌∷◌, ◌++◌, length, map, Some, slice_get, refl, sym, ap, subst, arith}
use Rattle.std.specs.Prelude.{IfErr, if◌then◌else◌, nat_lt}
use Rattle.std.specs.declared.result.Result.{Result}
use Rattle.std.specs.declared.result.Result.TheVariants.{Err, Ok}
use Rattle.std.specs.Option.{option_map}
use Rattle.std.specs.List.{slice_index_or}
use Rattle.std.proofs.lemmas.Bool.Decides.{nat_tests}
use Rattle.std.proofs.lemmas.List.{append-nil, take_all}
use Rattle.std.proofs.lemmas.Option.{get_or_from_slice_get, slice_get-map, slice_get_within}
use Rattle.std.proofs.Math.Nat.{mod-lt}
use Rattle.pipe_columns.specs.declared.data_chunk.DataChunk.{DataChunk}
use Rattle.pipe_columns.specs.Row.{Row}
use Rattle.pipe_model.specs.Rows.{chunk_rows}
use Rattle.pipe_plan.specs.declared.event.PartitionEvent.{PartitionEvent}
use Rattle.pipe_plan.specs.declared.event.SpillAction.{SpillAction}
use Rattle.pipe_plan.specs.declared.event.SpillAction.TheVariants as action
use Rattle.pipe_plan.specs.Plan.{action_at, asks, events_before, events_of, height_at, is_pick, picked_partition, picks_before, plan}
use Rattle.pipe_plan.specs.Progress.{events_made, rows_before}
use Rattle.pipe_plan.specs.Run.{is_turn_of, Run}
use Rattle.pipe_plan.proofs.AtEnd.{made-begun, made-turn, pick-next}
use Rattle.pipe_plan.proofs.Planning.{picks-yes}
use Rattle.pipe_tables.specs.LocalTable.{Local}
use Rattle.pipe_global.specs.Shares.{next_pick, one_more_pick, raised, share_of, SharesSeen}
use Rattle.pipe_workers.specs.declared.stop.WorkerStop.{WorkerStop}
use Rattle.pipe_workers.specs.declared.stop.WorkerStop.TheVariants as stop
use Rattle.pipe_workers.specs.Steps.{after_action, AreRowsOfTurn, IsAtTurn, IsInTurn, IsNextPick, taken_with}
use Rattle.pipe_workers.specs.Turns.{AreSharesAtStop, AreSharesBefore, refused_after, IsAfterTurns, IsPartition}
use Rattle.pipe_workers.specs.Workers.{TakesTurns}
use Rattle.pipe_workers.proofs.AtRows.{raised-other, raised-own}
use Rattle.pipe_workers.proofs.Standing.{before-fronts, made-few, turn-rows}

-- ---- it begins

-- no row is taken yet
pub turn-begins : (r : Run) (w i : ℕ) (t : Local) (s : SharesSeen) → i ≤ length r.chunks → IsAfterTurns r w i t s → IsInTurn r w i (rows_before r w i) t s
turn-begins r w i t s le after = record {
  table = after.table;
  worker = after.shares.worker;
  picks = after.shares.picks;
  events = λ p lt. after.shares.events p lt ∙ sym (made-begun r w p i le);
  faults = after.shares.faults;
}

-- the rows of its chunk are to come
pub rows-of-turn : (r : Run) (w i : ℕ) (chunk : DataChunk) (t : Local) (s : SharesSeen) (rows : List Row) → IsAtTurn r w i chunk t s → rows ≡ chunk_rows r.query i chunk.frame → AreRowsOfTurn r w i rows
rows-of-turn r w i chunk t s rows at is = record { chunk = chunk; at = at.at; turn = at.turn; rows_are = is }

-- before the first of them, and behind the last
pub taken-none : (r : Run) (w i : ℕ) (rows : List Row) (t : Local) (s : SharesSeen) → IsInTurn r w i (rows_before r w i) t s → IsInTurn r w i (taken_with r w i rows 0) t s
taken-none r w i rows t s here = subst (λ (l : List Row). IsInTurn r w i l t s) (sym (append-nil (rows_before r w i))) here

pub taken-all : (r : Run) (w i : ℕ) (rows : List Row) (n : ℕ) (t : Local) (s : SharesSeen) → AreRowsOfTurn r w i rows → length rows ≤ n → IsInTurn r w i (taken_with r w i rows n) t s → IsInTurn r w i (rows_before r w (i + 1)) t s
taken-all r w i rows n t s turn le here =
    subst (λ (l : List Row). IsInTurn r w i l t s) (ap (λ (l : List Row). rows_before r w i ++ l) (take_all n rows le) ∙ sym (turn-rows r w i rows turn)) here

-- ---- its pick

-- the height of its chunk
pub height-is : (r : Run) (i : ℕ) (c : DataChunk) → slice_get r.chunks i ≡ Some c → height_at r i ≡ c.frame.height
height-is r i c at =
    get_or_from_slice_get (map (λ (c : DataChunk). c.frame.height) r.chunks) i c.frame.height 0
    (slice_get-map (λ (c : DataChunk). c.frame.height) r.chunks i ∙ ap (option_map (λ (c : DataChunk). c.frame.height)) at)

-- where it has rows, it is a pick exactly where its action asks for an event
pub pick-asks : (r : Run) (i : ℕ) (c : DataChunk) → slice_get r.chunks i ≡ Some c → 0 < c.frame.height → is_pick r i ≡ asks (action_at r i)
pick-asks r i c at some =
    let yes : nat_lt 0 (height_at r i) ≡ true = (let is : 0 < height_at r i = omega (arith, some, height-is r i c at) in grind (arith, nat_tests)) in
    ap (λ b. b && asks (action_at r i)) yes

-- and where it has none, it is no pick
pub pick-none : (r : Run) (i : ℕ) (c : DataChunk) → slice_get r.chunks i ≡ Some c → c.frame.height ≡ 0 → is_pick r i ≡ false
pick-none r i c at none =
    let no : nat_lt 0 (height_at r i) ≡ false = (let is : height_at r i ≡ 0 = omega (arith, none, height-is r i c at) in grind (arith, nat_tests)) in
    ap (λ b. b && asks (action_at r i)) no

-- an action of one event asks for it
pub one-asks : (w : ℕ) (a : SpillAction) (e : PartitionEvent) → events_of w a ≡ e ∷ [] → asks a ≡ true
one-asks w action.EarlyMerge e is = refl
one-asks w action.Dump e is = refl
one-asks w action.None e is = absurd cc

-- the partition of the pick
pub pick-is : (r : Run) (w i : ℕ) (s : SharesSeen) → s.worker ≡ w → s.picks ≡ picks_before r w i → next_pick r.limits.partitions s ≡ picked_partition r w i
pick-is r w i s worker picks = ap (λ v. (v + s.picks) % r.limits.partitions) worker ∙ ap (λ k. (w + k) % r.limits.partitions) picks

-- its event is next
pub pick-is-next : (r : Run) (w i : ℕ) (c : DataChunk) (t : Local) (s : SharesSeen) → TakesTurns r → slice_get r.chunks i ≡ Some c → is_turn_of r w i ≡ true → 0 < c.frame.height
    → IsInTurn r w i (rows_before r w (i + 1)) t s → IsNextPick r (action_at r i) s
pick-is-next r w i c t s takes at turn some here e one =
    let own : events_of w (action_at r i) ≡ e ∷ [] = ap (λ v. events_of v (action_at r i)) (sym here.worker) ∙ one in
    let q = next_pick r.limits.partitions s in
    let there : q < r.limits.partitions = mod-lt (s.worker + s.picks) takes.runnable.limits.partitions in
    let pick : is_pick r i ≡ true = pick-asks r i c at some ∙ one-asks w (action_at r i) e own in
    ap (λ v. slice_get (plan r v q) (share_of s q)) here.worker
    ∙ ap (λ n. slice_get (plan r w q) n) (here.events q there)
    ∙ pick-next r w q i e takes.generic (slice_get_within r.chunks i c at) turn pick (sym (pick-is r w i s here.worker here.picks)) own

-- ---- it ends

-- shares with a pick, or without
abbrev pub with_pick : ℕ → Bool → SharesSeen → SharesSeen
with_pick partitions b s = if b then one_more_pick (raised s (next_pick partitions s)) else s

module _ (r : Run) (w i : ℕ) (t : Local) (s : SharesSeen) (takes : TakesTurns r) (lt : i < length r.chunks) (turn : is_turn_of r w i ≡ true)
    (here : IsInTurn r w i (rows_before r w (i + 1)) t s) (count : length s.events ≡ r.limits.partitions) where
  abbrev q : ℕ
  q = next_pick r.limits.partitions s

  q-there : q < r.limits.partitions
  q-there = mod-lt (s.worker + s.picks) takes.runnable.limits.partitions

  q-is : q ≡ picked_partition r w i
  q-is = pick-is r w i s here.worker here.picks

  -- the events of the turns so far
  events-after : (b : Bool) → is_pick r i ≡ b → (p : ℕ) → p < r.limits.partitions → share_of (with_pick r.limits.partitions b s) p ≡ length (events_before r w p (i + 1))
  events-after false is p there =
      let more : length (events_before r w p (i + 1)) ≡ events_made r w p i (rows_before r w (i + 1)) + 0 =
      made-turn r w p i lt turn ∙ ap (λ b. events_made r w p i (rows_before r w (i + 1)) + (if b && (picked_partition r w i == p) then 1 else 0)) is in
      omega (arith, more, here.events p there)
  events-after true is p there = by (q == p) refl
    where
      more : (b : Bool) → (q == p) ≡ b → length (events_before r w p (i + 1)) ≡ events_made r w p i (rows_before r w (i + 1)) + (if b then 1 else 0)
      more b at =
          made-turn r w p i lt turn
          ∙ ap (λ b. events_made r w p i (rows_before r w (i + 1)) + (if b && (picked_partition r w i == p) then 1 else 0)) is
          ∙ ap (λ k. events_made r w p i (rows_before r w (i + 1)) + (if k == p then 1 else 0)) (sym q-is)
          ∙ ap (λ b. events_made r w p i (rows_before r w (i + 1)) + (if b then 1 else 0)) at

      by : (b : Bool) → (q == p) ≡ b → share_of (raised s q) p ≡ length (events_before r w p (i + 1))
      by true at =
          let same : q ≡ p = grind (arith, nat_tests) in
          subst (λ k. share_of (raised s q) k ≡ share_of s k + 1) same (raised-own s q (omega (arith, q-there, count)))
          ∙ ap (λ n. n + 1) (here.events p there) ∙ sym (more true at)
      by false at =
          let other : p ≢ q = grind (arith, nat_tests) in
          raised-other s q p other ∙ here.events p there ∙ omega (arith, more false at)

  shares-after : (b : Bool) → is_pick r i ≡ b → AreSharesBefore r w (i + 1) (with_pick r.limits.partitions b s)
  shares-after true is = record {
    worker = here.worker;
    picks = ap (λ n. n + 1) here.picks ∙ sym (picks-yes r w i turn ∙ ap (λ b. picks_before r w i + (if b then 1 else 0)) is);
    events = events-after true is;
    faults = here.faults;
  }
  shares-after false is = record {
    worker = here.worker;
    picks = here.picks ∙ omega (arith, picks-yes r w i turn ∙ ap (λ b. picks_before r w i + (if b then 1 else 0)) is);
    events = events-after false is;
    faults = here.faults;
  }

  -- the worker has taken its turns before the next position
  pub turn-ends : (b : Bool) → is_pick r i ≡ b → IsAfterTurns r w (i + 1) t (with_pick r.limits.partitions b s)
  turn-ends b is = record { table = here.table; shares = shares-after b is }

-- with a pick's action made
pub turn-ends-picked : (r : Run) (w i : ℕ) (c : DataChunk) (t : Local) (s h : SharesSeen) → TakesTurns r → slice_get r.chunks i ≡ Some c → is_turn_of r w i ≡ true → 0 < c.frame.height
    → IsInTurn r w i (rows_before r w (i + 1)) t s → length s.events ≡ r.limits.partitions → h ≡ after_action r.limits.partitions (action_at r i) s → IsAfterTurns r w (i + 1) t h
turn-ends-picked r w i c t s h takes at turn some here count is =
    subst (λ (x : SharesSeen). IsAfterTurns r w (i + 1) t x) (sym is)
    (turn-ends r w i t s takes (slice_get_within r.chunks i c at) turn here count (asks (action_at r i)) (pick-asks r i c at some))

-- an empty chunk leaves all as it was
pub turn-ends-empty : (r : Run) (w i : ℕ) (c : DataChunk) (t : Local) (s : SharesSeen) → TakesTurns r → IsAtTurn r w i c t s → c.frame.height ≡ 0 → length s.events ≡ r.limits.partitions → IsAfterTurns r w (i + 1) t s
turn-ends-empty r w i c t s takes at none count =
    let lt : i < length r.chunks = slice_get_within r.chunks i c at.at in
    let no_rows : chunk_rows r.query i c.frame ≡ [] = ap (λ n. map (λ k. Rattle.pipe_model.specs.Rows.row_of r.query i c.frame k) (Rattle.std.specs.List.range_with_len 0 n)) none in
    let turn : AreRowsOfTurn r w i [] = rows-of-turn r w i c t s [] at (sym no_rows) in
    let here : IsInTurn r w i (rows_before r w (i + 1)) t s = taken-all r w i [] 0 t s turn (omega arith) (taken-none r w i [] t s (turn-begins r w i t s (omega arith) at.after)) in
    turn-ends r w i t s takes lt at.turn here count false (pick-none r i c at.at none)

-- ---- it stops

-- a worker that stops before its first row
pub turn-unbegun : (r : Run) (w i : ℕ) (c : DataChunk) (t : Local) (s : SharesSeen) → TakesTurns r → IsAtTurn r w i c t s → AreSharesAtStop r w stop.Memory s
turn-unbegun r w i c t s takes at = record {
  fronts = before-fronts r w i s takes (let lt = slice_get_within r.chunks i c at.at in omega arith) at.after.shares;
  faults = at.after.shares.faults;
  partition = takes.runnable.limits.partitions;
}

-- a worker that stops at the pick
pub pick-stopped : (r : Run) (w i : ℕ) (end : WorkerStop) (t : Local) (s h : SharesSeen) → TakesTurns r → i < length r.chunks → is_turn_of r w i ≡ true → IsInTurn r w i (rows_before r w (i + 1)) t s
    → h.worker ≡ s.worker → h.events ≡ s.events → h.faults ≡ refused_after end s.faults → IsPartition r end → AreSharesAtStop r w end h
pick-stopped r w i end t s h takes lt turn here worker events faults there = record {
  fronts = record {
    worker = worker ∙ here.worker;
    events = λ p inside.
        let same : share_of h p ≡ share_of s p = ap (λ (l : List ℕ). slice_index_or l p 0) events in
        omega (arith, same, here.events p inside, made-few r w p i (rows_before r w (i + 1)) [] takes lt turn (sym (append-nil (rows_before r w (i + 1)))));
  };
  faults = faults ∙ ap (refused_after end) here.faults;
  partition = there;
}

-- and as the pick tells it
pub pick-ends : (r : Run) (w i : ℕ) (t : Local) (s h : SharesSeen) → TakesTurns r → i < length r.chunks → is_turn_of r w i ≡ true → IsInTurn r w i (rows_before r w (i + 1)) t s
    → h.worker ≡ s.worker → {A : Type 0} (x : Result A WorkerStop) → IfErr x (λ _. h.events ≡ s.events) → IfErr x (λ end. h.faults ≡ refused_after end s.faults) → IfErr x (λ end. IsPartition r end)
    → IfErr x (λ end. AreSharesAtStop r w end h)
pick-ends r w i t s h takes lt turn here worker (Ok a) events faults there = tt
pick-ends r w i t s h takes lt turn here worker (Err end) events faults there = pick-stopped r w i end t s h takes lt turn here worker events faults there
