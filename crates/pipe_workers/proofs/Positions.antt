-- The positions of a worker's turns, and turns in longer runs.
use Rattle.std.proofs.Common.{◌≡◌, ◌∙◌, ◌+◌, ◌*◌, ◌/◌, ◌%◌, ◌≤◌, ◌<◌, ◌^◌, ℕ, Bool, zero, suc, true, false, List, [], ◌∷◌, ◌++◌, length, Some, slice_get, refl, sym, ap, subst, arith, length-append}
use Rattle.std.proofs.lemmas.Bool.{eqb-true}
use Rattle.std.proofs.lemmas.List.{take-append-le}
use Rattle.std.proofs.lemmas.Nat.{div-add-mod'}
use Rattle.std.proofs.lemmas.Option.{slice_get_within}
use Rattle.std.proofs.Math.Nat.{mod-lt, mul-le-mul_left}
use Rattle.pipe_columns.specs.declared.data_chunk.DataChunk.{DataChunk}
use Rattle.pipe_columns.specs.Row.{Row}
use Rattle.pipe_plan.specs.declared.event.PartitionEvent.{PartitionEvent}
use Rattle.pipe_plan.specs.Plan.{turns_before}
use Rattle.pipe_plan.specs.Progress.{rows_before}
use Rattle.pipe_plan.specs.Rounds.{GoesOn}
use Rattle.pipe_plan.specs.Run.{is_turn_of, of_worker, Run, StoreSeen}
use Rattle.pipe_plan.proofs.Dealing.{turn-at, turns-after, turns-first}
use Rattle.pipe_plan.proofs.Longer.{goes-on, longer_run}
use Rattle.pipe_plan.proofs.Planning.{events-no, picks-no, turns-no, turns-yes}
use Rattle.pipe_plan.proofs.Reaching.{worker-no}
use Rattle.pipe_plan.proofs.Turning.{events-later, picks-later}
use Rattle.pipe_groups.specs.Shape.{shape_of}
use Rattle.pipe_tables.specs.After.{IsAfter}
use Rattle.pipe_workers.specs.Turns.{IsAfterTurns, IsReady}
use Rattle.pipe_workers.specs.Workers.{next_position, TakesTurns, WorkerSeen}

-- ---- positions

-- before turn j there are j turns
turns-count : (r : Run) (w j : ℕ) → w < r.limits.workers → length (turns_before r w (w + j * r.limits.workers)) ≡ j
turns-count r w zero lt = ap (λ (l : List ℕ). length l) (turns-first r w (w + 0 * r.limits.workers) lt (omega arith))
turns-count r w (suc j) lt =
    let n = r.limits.workers in
    let here = w + j * n in
    let there : w + suc j * n ≡ here + n = omega arith in
    let more : turns_before r w (w + suc j * n) ≡ turns_before r w here ++ here ∷ [] = turns-after r w here (w + suc j * n) (omega (arith, lt)) (turn-at r w j lt) (omega (arith, there, lt)) (omega (arith, there)) in
    omega (arith, ap (λ (l : List ℕ). length l) more, length-append (turns_before r w here) (here ∷ []), turns-count r w j lt)

-- a worker that comes to its turn finds the position by the number of turns taken
pub position-is : (r : Run) (w n : ℕ) (x : WorkerSeen) → TakesTurns r → is_turn_of r w n ≡ true → IsReady r w n x → next_position r x ≡ n
position-is r w n x takes turn ready =
    let m = r.limits.workers in
    let some = takes.runnable.limits.workers in
    let rest : n % m ≡ w = eqb-true (n % m) w turn in
    let lt : w < m = omega (arith, rest, mod-lt n some) in
    let at : n ≡ w + n / m * m = omega (arith, div-add-mod' n m, rest) in
    let count : length (turns_before r w n) ≡ n / m = ap (λ k. length (turns_before r w k)) at ∙ turns-count r w (n / m) lt in
    ap (λ v. v + x.turns * m) ready.after.shares.worker ∙ ap (λ k. w + k * m) (ready.turns ∙ count) ∙ sym at

-- the position of a next turn is one
pub position-turn : (r : Run) (x : WorkerSeen) → x.shares.worker < r.limits.workers → is_turn_of r x.shares.worker (next_position r x) ≡ true
position-turn r x lt = turn-at r x.shares.worker x.turns lt

-- ---- another worker's chunk

pub passed : (r : Run) (w n : ℕ) (x : WorkerSeen) → n < length r.chunks → is_turn_of r w n ≡ false → IsReady r w n x → IsReady r w (n + 1) x
passed r w n x lt other ready =
    let c : DataChunk = at-chunk.0 in
    record {
      after = record {
        table = subst (λ (l : List Row). IsAfter r.limits (shape_of r.query) l x.table) (sym (worker-no r w n at-chunk.0 at-chunk.1 other)) ready.after.table;
        shares = record {
          worker = ready.after.shares.worker;
          picks = ready.after.shares.picks ∙ sym (picks-no r w n other);
          events = λ p there. ready.after.shares.events p there ∙ ap (λ (l : List PartitionEvent). length l) (sym (events-no r w p n other));
          faults = ready.after.shares.faults;
        };
      };
      turns = ready.turns ∙ ap (λ (l : List ℕ). length l) (sym (turns-no r w n other));
      at_work = ready.at_work;
      unstopped = ready.unstopped;
    }
  where
    element : {A : Type 0} (xs : List A) (n : ℕ) → n < length xs → (x : A) × (slice_get xs n ≡ Some x)
    element [] n lt = absurd (omega arith)
    element (x ∷ xs) zero lt = (x, refl)
    element (x ∷ xs) (suc n) lt = element xs n (omega arith)

    at-chunk : (c : DataChunk) × (slice_get r.chunks n ≡ Some c)
    at-chunk = element r.chunks n lt

-- ---- a turn that was taken

pub turn-taken : (r : Run) (w n : ℕ) (x y : WorkerSeen) → is_turn_of r w n ≡ true → IsReady r w n x → IsAfterTurns r w (n + 1) y.table y.shares → y.turns ≡ x.turns + 1 → y.closed ≡ x.closed → y.stopped ≡ x.stopped
    → IsReady r w (n + 1) y
turn-taken r w n x y turn ready after turns closed stopped = record {
  after = after;
  turns = turns ∙ omega (arith, ready.turns, ap (λ (l : List ℕ). length l) (turns-yes r w n turn), length-append (turns_before r w n) (n ∷ []));
  at_work = closed ∙ ready.at_work;
  unstopped = stopped ∙ ready.unstopped;
}

-- ---- longer runs

module _ (r : Run) (o : Bool) (chunks : List DataChunk) (stores : List StoreSeen) (w n : ℕ) (le : n ≤ length r.chunks) where
  -- the rows before a position are those of the longer run
  rows-later : rows_before (longer_run r o chunks stores) w n ≡ rows_before r w n
  rows-later = ap (λ (cs : List DataChunk). of_worker (record r { chunks = cs; is_open = true }) w) (take-append-le n r.chunks chunks le)

  ready-later : (x : WorkerSeen) → IsReady r w n x → IsReady (longer_run r o chunks stores) w n x
  ready-later x ready =
      let was = ready.after in
      record {
        after = record {
          table = subst (λ (l : List Row). IsAfter r.limits (shape_of r.query) l x.table) (sym rows-later) was.table;
          shares = record {
            worker = was.shares.worker;
            picks = was.shares.picks ∙ sym (picks-later r o chunks stores w n le);
            events = λ p lt. was.shares.events p lt ∙ ap (λ (l : List PartitionEvent). length l) (sym (events-later r o chunks stores w p n le));
            faults = was.shares.faults;
          };
        };
        turns = ready.turns;
        at_work = ready.at_work;
        unstopped = ready.unstopped;
      }

-- a worker stands in a longer run where it stood
pub ready-longer : (r s : Run) (w n : ℕ) (x : WorkerSeen) → GoesOn r s → n ≤ length r.chunks → IsReady r w n x → IsReady s w n x
ready-longer r s w n x on le ready = subst (λ (q : Run). IsReady q w n x) (goes-on r s on) (ready-later r s.is_open on.more s.stores w n le x ready)

-- ---- few turns

-- turns have numbers
pub turns-small : (r : Run) (x : WorkerSeen) (c : DataChunk) → TakesTurns r → slice_get r.chunks (next_position r x) ≡ Some c → x.turns + 1 < 2 ^ 64
turns-small r x c takes at =
    let lt = slice_get_within r.chunks (next_position r x) c at in
    let some : x.turns * 1 ≤ x.turns * r.limits.workers = mul-le-mul_left {m = 1} {n = r.limits.workers} x.turns takes.runnable.limits.workers in
    omega (arith, lt, some, takes.chunks.number)
