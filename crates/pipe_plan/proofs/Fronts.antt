-- What an open run has is the front of what it has over more chunks, and closed.
use Rattle.std.proofs.Common.{◌≡◌, ℕ, ◌+◌, ◌<◌, ◌≤◌, ◌==◌, Bool, true, false, List, [], ◌∷◌, ◌++◌, length, refl, ap, sym, ◌∙◌, subst, arith, length-append, ⊎_elim}
use Rattle.std.specs.Prelude.{if◌then◌else◌}
use Rattle.std.specs.List.{filter, slice_index_or}
use Rattle.std.proofs.lemmas.Bool.{cases_Bool, eq-eqb}
use Rattle.std.proofs.lemmas.List.{append-nil, get_or_append_left, length-take-le}
use Rattle.std.proofs.lemmas.List.Elements.{filter-append, recursion_from_All}
use Rattle.std.proofs.Math.Seq.{take-append_seam}
use Rattle.pipe_columns.specs.declared.data_chunk.DataChunk.{DataChunk}
use Rattle.pipe_columns.specs.Pieces.{pieces}
use Rattle.pipe_columns.specs.Row.{Row}
use Rattle.pipe_model.proofs.CountFacts.{count-append}
use Rattle.pipe_plan.specs.declared.limits.Limits.{Limits}
use Rattle.pipe_plan.specs.Journals.{AreOfWorkers, IsWithin}
use Rattle.pipe_plan.specs.Rounds.{GoesOn, IsFront, run_until}
use Rattle.pipe_plan.specs.Whole.{kept_rows}
use Rattle.pipe_plan.specs.declared.event.PartitionEvent.{PartitionEvent}
use Rattle.pipe_plan.specs.declared.event.PartitionEvent.TheVariants as event
use Rattle.pipe_plan.specs.Overflow.{overflow}
use Rattle.pipe_plan.specs.Payloads.{full_pieces, payloads, rest_of}
use Rattle.pipe_plan.specs.Plan.{events_before, picks_before, plan}
use Rattle.pipe_plan.specs.Replay.{arrivals, events_by, is_arrival, nothing_yet, replay, worker_of}
use Rattle.pipe_plan.specs.Kept.{is_kept}
use Rattle.pipe_plan.specs.Run.{is_generic, of_worker, Run, StoreSeen}
use Rattle.pipe_plan.proofs.AllRows.{arrivals-plan}
use Rattle.pipe_plan.proofs.AtEnd.{last-open}
use Rattle.pipe_plan.proofs.AtRow.{payloads-full}
use Rattle.pipe_plan.proofs.ChunkRows.{each-at}
use Rattle.pipe_plan.proofs.Cutting.{full-append}
use Rattle.pipe_plan.proofs.Filtering.{filter-yes}
use Rattle.pipe_plan.proofs.Longer.{goes-on, kept-same, longer_run, more_overflow, more_rows, overflow-later, worker-later}
use Rattle.pipe_plan.proofs.NextEvent.{front-trans, plan-front, plan-generic, plan-typed}
use Rattle.pipe_plan.proofs.Reaching.{events-until}
use Rattle.pipe_plan.proofs.Replaying.{replay_from-same}
use Rattle.pipe_plan.proofs.Turning.{events-later, picks-later}

-- a front of an equal list
front-of : {A : Type 0} (xs ys zs : List A) → ys ≡ xs → IsFront xs zs → IsFront ys zs
front-of xs ys zs is f = record { rest = f.rest; is = f.is ∙ ap (λ l. l ++ f.rest) (sym is) }

-- an open run's payloads are its full pieces
payloads-open : (r : Run) (w p : ℕ) → r.is_open ≡ true → payloads r w p ≡ full_pieces r.limits.buffer_size (overflow r w p)
payloads-open r w p opened = ap (λ o. if o then full_pieces r.limits.buffer_size (overflow r w p) else pieces r.limits.buffer_size (overflow r w p)) opened

-- and its plan the events of its turns
pub plan-open : (r : Run) (w p : ℕ) → r.is_open ≡ true → is_generic r.limits.sink ≡ true → plan r w p ≡ events_before r w p (length r.chunks)
plan-open r w p opened generic =
    plan-generic r w p generic ∙ ap (λ (l : List PartitionEvent). events_before r w p (length r.chunks) ++ l) (last-open r w p opened) ∙ append-nil (events_before r w p (length r.chunks))

-- so the plans of a run so far are the events of the turns so far
pub plan-until : (r : Run) (w p n : ℕ) → is_generic r.limits.sink ≡ true → n ≤ length r.chunks → plan (run_until r n) w p ≡ events_before r w p n
plan-until r w p n generic le =
    plan-open (run_until r n) w p refl generic
    ∙ ap (λ k. events_before (run_until r n) w p k) (length-take-le n r.chunks le)
    ∙ events-until r n w p le

-- nothing is a front of anything
typed-front : (r s : Run) (w p : ℕ) → is_generic r.limits.sink ≡ false → IsFront (plan r w p) (plan s w p)
typed-front r s w p typed = record { rest = plan s w p; is = ap (λ (l : List PartitionEvent). l ++ plan s w p) (sym (plan-typed r w p typed)) }

module _ (r : Run) (o : Bool) (chunks : List DataChunk) (stores : List StoreSeen) (w : ℕ) where
  -- the rows of a worker
  pub rows-front : IsFront (of_worker r w) (of_worker (longer_run r o chunks stores) w)
  rows-front = record { rest = more_rows r w chunks; is = worker-later r o chunks stores w }

  -- those that it keeps
  pub kept-front : IsFront (kept_rows r w) (kept_rows (longer_run r o chunks stores) w)
  kept-front =
      let s = longer_run r o chunks stores in
      record {
        rest = filter (is_kept s w) (more_rows r w chunks);
        is =
            ap (λ (l : List Row). filter (is_kept s w) l) (worker-later r o chunks stores w)
            ∙ filter-append (is_kept s w) (of_worker r w) (more_rows r w chunks)
            ∙ ap (λ (l : List Row). l ++ filter (is_kept s w) (more_rows r w chunks)) (kept-same r o chunks stores w);
      }

module _ (r : Run) (o : Bool) (chunks : List DataChunk) (stores : List StoreSeen) (w p : ℕ) where
  -- those that overflow
  pub overflow-front : IsFront (overflow r w p) (overflow (longer_run r o chunks stores) w p)
  overflow-front = record { rest = more_overflow r o chunks stores w p; is = overflow-later r o chunks stores w p }

  -- their full pieces
  pub full-front-later : 0 < r.limits.buffer_size → IsFront (full_pieces r.limits.buffer_size (overflow r w p)) (full_pieces r.limits.buffer_size (overflow (longer_run r o chunks stores) w p))
  full-front-later some = record {
    rest = full_pieces r.limits.buffer_size (rest_of r.limits.buffer_size (overflow r w p) ++ more_overflow r o chunks stores w p);
    is = ap (λ (l : List Row). full_pieces r.limits.buffer_size l) (overflow-later r o chunks stores w p) ∙ full-append r.limits.buffer_size (overflow r w p) (more_overflow r o chunks stores w p) some;
  }

  -- all pieces of an open run
  pub payloads-later : 0 < r.limits.buffer_size → r.is_open ≡ true → IsFront (payloads r w p) (payloads (longer_run r o chunks stores) w p)
  payloads-later some opened =
      let b = r.limits.buffer_size in
      let s = longer_run r o chunks stores in
      front-of (full_pieces b (overflow r w p)) (payloads r w p) (payloads s w p) (payloads-open r w p opened)
      (front-trans (full_pieces b (overflow r w p)) (full_pieces b (overflow s w p)) (payloads s w p) (full-front-later some) (payloads-full s w p some))

  -- and its plans
  pub plan-later : r.is_open ≡ true → IsFront (plan r w p) (plan (longer_run r o chunks stores) w p)
  plan-later opened =
      let s = longer_run r o chunks stores in
      ⊎_elim
      (λ generic.
      front-of (events_before s w p (length r.chunks)) (plan r w p) (plan s w p) (plan-open r w p opened generic ∙ sym (events-later r o chunks stores w p (length r.chunks) (omega arith)))
      (plan-front s w p (length r.chunks) generic (omega (arith, length-append r.chunks chunks))))
      (λ typed. typed-front r s w p typed)
      (cases_Bool (is_generic r.limits.sink))

-- ---- runs that go on

module _ (r s : Run) (on : GoesOn r s) where
  -- the rows of a worker
  pub rows-on : (w : ℕ) → IsFront (of_worker r w) (of_worker s w)
  rows-on w = subst (λ (s : Run). IsFront (of_worker r w) (of_worker s w)) (goes-on r s on) (rows-front r s.is_open on.more s.stores w)

  -- those that it keeps
  pub kept-on : (w : ℕ) → IsFront (kept_rows r w) (kept_rows s w)
  kept-on w = subst (λ (s : Run). IsFront (kept_rows r w) (kept_rows s w)) (goes-on r s on) (kept-front r s.is_open on.more s.stores w)

  -- those that overflow
  pub overflow-on : (w p : ℕ) → IsFront (overflow r w p) (overflow s w p)
  overflow-on w p = subst (λ (s : Run). IsFront (overflow r w p) (overflow s w p)) (goes-on r s on) (overflow-front r s.is_open on.more s.stores w p)

  -- their full pieces
  pub full-on : (w p : ℕ) → 0 < r.limits.buffer_size → IsFront (full_pieces r.limits.buffer_size (overflow r w p)) (full_pieces r.limits.buffer_size (overflow s w p))
  full-on w p some =
      subst (λ (s : Run). IsFront (full_pieces r.limits.buffer_size (overflow r w p)) (full_pieces r.limits.buffer_size (overflow s w p))) (goes-on r s on) (full-front-later r s.is_open on.more s.stores w p some)

  -- all pieces of an open run
  pub payloads-on : (w p : ℕ) → 0 < r.limits.buffer_size → r.is_open ≡ true → IsFront (payloads r w p) (payloads s w p)
  payloads-on w p some opened = subst (λ (s : Run). IsFront (payloads r w p) (payloads s w p)) (goes-on r s on) (payloads-later r s.is_open on.more s.stores w p some opened)

  -- its plans
  pub plan-on : (w p : ℕ) → r.is_open ≡ true → IsFront (plan r w p) (plan s w p)
  plan-on w p opened = subst (λ (s : Run). IsFront (plan r w p) (plan s w p)) (goes-on r s on) (plan-later r s.is_open on.more s.stores w p opened)

  -- the events of turns stay
  pub events-on : (w p n : ℕ) → n ≤ length r.chunks → events_before s w p n ≡ events_before r w p n
  events-on w p n le = subst (λ (s : Run). events_before s w p n ≡ events_before r w p n) (goes-on r s on) (events-later r s.is_open on.more s.stores w p n le)

  -- and so do picks
  pub picks-on : (w n : ℕ) → n ≤ length r.chunks → picks_before s w n ≡ picks_before r w n
  picks-on w n le = subst (λ (s : Run). picks_before s w n ≡ picks_before r w n) (goes-on r s on) (picks-later r s.is_open on.more s.stores w n le)

  -- what a worker took in the first chunks is what it took before
  pub taken-on : (w : ℕ) → of_worker (run_until s (length r.chunks)) w ≡ of_worker r w
  taken-on w =
      ap (λ (s : Run). of_worker (run_until s (length r.chunks)) w) (sym (goes-on r s on))
      ∙ ap (λ (cs : List DataChunk). of_worker (record r { chunks = cs }) w) (take-append_seam r.chunks on.more)

-- ---- replays

-- within the plans no more arrive than there are pieces
pub arrivals-within : (r : Run) (w p : ℕ) (events : List PartitionEvent) → 0 < r.limits.buffer_size → IsFront events (plan r w p) → arrivals events ≤ length (payloads r w p)
arrivals-within r w p events some f =
    let all : arrivals (plan r w p) ≡ arrivals events + arrivals f.rest = ap arrivals f.is ∙ count-append is_arrival events f.rest in
    omega (arith, all, arrivals-plan r w p some)

-- an arrival among events is one more than before it
pub arrivals-at : (w : ℕ) (front back : List PartitionEvent) → arrivals (events_by w front) < arrivals (events_by w (front ++ event.Arrive w ∷ back))
arrivals-at w front back =
    let parts : events_by w (front ++ event.Arrive w ∷ back) ≡ events_by w front ++ event.Arrive w ∷ events_by w back =
    filter-append (λ e. worker_of e == w) front (event.Arrive w ∷ back) ∙ ap (λ (l : List PartitionEvent). events_by w front ++ l) (filter-yes (λ e. worker_of e == w) (event.Arrive w) back (eq-eqb w w refl)) in
    omega (arith, ap arrivals parts, count-append is_arrival (events_by w front) (event.Arrive w ∷ events_by w back), count-append is_arrival (event.Arrive w ∷ []) (events_by w back))

-- the worker of an event of a run's workers
mine : (r : Run) (front back : List PartitionEvent) (e : PartitionEvent) (journal : List PartitionEvent) → AreOfWorkers r journal → journal ≡ front ++ e ∷ back → worker_of e < r.limits.workers
mine r front back e journal ours is = each-at (λ e. worker_of e < r.limits.workers) journal front back e (recursion_from_All (λ e. worker_of e < r.limits.workers) journal ours) is

-- a journal within the plans replays alike where the payloads are fronts
pub replay-front : (r s : Run) (p : ℕ) (journal : List PartitionEvent) → 0 < r.limits.buffer_size → s.limits.payload_limit ≡ r.limits.payload_limit
    → ((w : ℕ) → IsFront (payloads r w p) (payloads s w p)) → IsWithin r p journal → replay s p journal ≡ replay r p journal
replay-front r s p journal some limit fronts within =
    replay_from-same r s p [] nothing_yet journal limit
    (λ front back w is.
    let f = fronts w in
    let k = arrivals (events_by w front) in
    let lt : k < length (payloads r w p) =
    omega (arith, arrivals-at w front back, ap (λ (l : List PartitionEvent). arrivals (events_by w l)) is, arrivals-within r w p (events_by w journal) some (within.plans w (mine r front back (event.Arrive w) journal within.workers is))) in
    ap (λ (ps : List (List Row)). slice_index_or ps k []) f.is ∙ get_or_append_left (payloads r w p) f.rest [] k lt)

-- so does one where a run goes on
pub replay-on : (r s : Run) (p : ℕ) (journal : List PartitionEvent) → GoesOn r s → 0 < r.limits.buffer_size → r.is_open ≡ true → IsWithin r p journal → replay s p journal ≡ replay r p journal
replay-on r s p journal on some opened within = replay-front r s p journal some (ap (λ (l : Limits). l.payload_limit) on.limits) (λ w. payloads-on r s on w p some opened) within

-- and stays within the plans
pub within-on : (r s : Run) (p : ℕ) (journal : List PartitionEvent) → GoesOn r s → r.is_open ≡ true → IsWithin r p journal → IsWithin s p journal
within-on r s p journal on opened within =
    let workers : s.limits.workers ≡ r.limits.workers = ap (λ (l : Limits). l.workers) on.limits in
    record {
      workers = λ k d lt. subst (λ n. worker_of (slice_index_or journal k d) < n) (sym workers) (within.workers k d lt);
      plans = λ w lt. front-trans (events_by w journal) (plan r w p) (plan s w p) (within.plans w (subst (λ n. w < n) workers lt)) (plan-on r s on w p opened);
    }
