-- A worker closes, partition by partition.
use Rattle.std.proofs.Common.{◌≡◌, ◌≢◌, ◌∙◌, ◌+◌, ◌*◌, ◌/◌, ◌≤◌, ◌<◌, ◌==◌, ℕ, Bool, true, false, List, [], ◌∷◌, length, map, get_or, take, drop, Some, slice_get, refl, sym, ap, subst, arith, zero, suc, length-append}
use Rattle.std.specs.Prelude.{nat_lt}
use Rattle.std.proofs.lemmas.Bool.Decides.{nat_tests}
use Rattle.std.proofs.lemmas.List.{get_or-set_other, get_or-set_same, length-map}
use Rattle.std.proofs.lemmas.List.FromFn.{get_or-map-range_with_len, length-map-range_with_len}
use Rattle.std.proofs.Math.ListN.{length-set}
use Rattle.pipe_columns.specs.Row.{Row}
use Rattle.pipe_model.specs.Output.{key_types}
use Rattle.pipe_plan.specs.declared.event.PartitionEvent.{PartitionEvent}
use Rattle.pipe_plan.specs.declared.event.PartitionEvent.TheVariants as event
use Rattle.pipe_plan.specs.Overflow.{overflow}
use Rattle.pipe_plan.specs.Payloads.{rest_of}
use Rattle.pipe_plan.specs.Plan.{events_before, plan}
use Rattle.pipe_plan.specs.Progress.{rows_before}
use Rattle.pipe_plan.specs.Replay.{next_piece}
use Rattle.pipe_plan.specs.Run.{of_worker, Run}
use Rattle.pipe_plan.specs.Whole.{kept_rows}
use Rattle.pipe_plan.proofs.AtEnd.{plan-last, plan-none, rest-arrives, rest-next}
use Rattle.pipe_plan.proofs.Reaching.{worker-all}
use Rattle.pipe_spill.specs.SpillRow.{Payload, payload_of, spilled}
use Rattle.pipe_spill.specs.declared.spill_row.SpillRow.{SpillRow}
use Rattle.pipe_groups.specs.Holds.{Holds}
use Rattle.pipe_groups.specs.Shape.{shape_of}
use Rattle.pipe_tables.specs.After.{IsAfter, waiting_of}
use Rattle.pipe_tables.specs.Buffers.{waiting_in, with_rows}
use Rattle.pipe_tables.specs.LocalTable.{Local, with_buffers}
use Rattle.pipe_keyed.specs.Tables.{Table}
use Rattle.pipe_global.specs.Next.{next_event, next_payload}
use Rattle.pipe_global.specs.Partition.{spilled_all}
use Rattle.pipe_global.specs.Shares.{raised, share_of, SharesSeen}
use Rattle.pipe_workers.specs.declared.stop.WorkerStop.TheVariants as stop
use Rattle.pipe_workers.specs.Steps.{IsClosing}
use Rattle.pipe_workers.specs.Turns.{AreSharesAtStop, HasClosed, IsReady}
use Rattle.pipe_workers.specs.Workers.{TakesTurns, WorkerSeen}
use Rattle.pipe_workers.proofs.AtRows.{raised-other, raised-own}
use Rattle.pipe_workers.proofs.Standing.{events-few}

-- what is left of spilled rows
drop-spilled : (r : Run) (n : ℕ) (ys : List Row) → drop n (spilled_all r.query ys) ≡ spilled_all r.query (drop n ys)
drop-spilled r zero ys = refl
drop-spilled r (suc n) [] = refl
drop-spilled r (suc n) (y ∷ ys) = drop-spilled r n ys

pub rest-spilled : (r : Run) (n : ℕ) (ys : List Row) → rest_of n (spilled_all r.query ys) ≡ spilled_all r.query (rest_of n ys)
rest-spilled r n ys = ap (λ k. drop (k / n * n) (spilled_all r.query ys)) (length-map ys (spilled (key_types r.query))) ∙ drop-spilled r (length ys / n * n) ys

-- after all turns, before the first rest is sent
pub closing-begins : (r : Run) (w : ℕ) (x : WorkerSeen) → TakesTurns r → IsReady r w (length r.chunks) x → IsClosing r w 0 x.table x.shares
closing-begins r w x takes ready =
    let after = ready.after in
    let rows : rows_before r w (length r.chunks) ≡ of_worker r w = worker-all r w (length r.chunks) (omega arith) in
    let waits : (q : ℕ) → q < r.limits.partitions → waiting_in q x.table.buffers ≡ spilled_all r.query (rest_of r.limits.buffer_size (overflow r w q)) =
    λ q lt.
    ap (λ (l : List (List SpillRow)). get_or l q []) after.table.waits
    ∙ get_or-map-range_with_len (waiting_of r.limits (key_types r.query) (rows_before r w (length r.chunks))) 0 r.limits.partitions q q [] lt (omega arith)
    ∙ ap (λ (l : List Row). waiting_of r.limits (key_types r.query) l q) rows
    ∙ rest-spilled r r.limits.buffer_size (overflow r w q) in
    record {
      worker = after.shares.worker;
      faults = after.shares.faults;
      shape = after.table.shape;
      buffers = ap (λ (l : List (List SpillRow)). length l) after.table.waits ∙ length-map-range_with_len (waiting_of r.limits (key_types r.query) (rows_before r w (length r.chunks))) 0 r.limits.partitions;
      sent = λ q lt. absurd (omega arith);
      none = λ q lt. absurd (omega arith);
      unsent = λ q le lt. after.shares.events q lt;
      waits = λ q le lt. waits q lt;
    }

-- buffers in which the rows of a partition were taken out
abbrev pub emptied : ℕ → Local → Local
emptied p t = with_buffers (with_rows p [] t.buffers) t

module _ (r : Run) (w p : ℕ) (t : Local) (s : SharesSeen) (takes : TakesTurns r) (shut : r.is_open ≡ false) (lt : p < r.limits.partitions) (at : IsClosing r w p t s) where
  -- a worker that stops there
  pub closing-stopped : AreSharesAtStop r w stop.Memory s
  closing-stopped = record {
    fronts = record {
      worker = at.worker;
      events = λ q there. by q there (nat_lt q p) refl;
    };
    faults = at.faults;
    partition = takes.runnable.limits.partitions;
  }
    where
      by : (q : ℕ) → q < r.limits.partitions → (b : Bool) → nat_lt q p ≡ b → share_of s q ≤ length (plan r w q)
      by q there true is = let below : q < p = grind (arith, nat_tests) in omega (arith, at.sent q below)
      by q there false is = let above : p ≤ q = grind (arith, nat_tests) in omega (arith, at.unsent q above there, events-few r w q (length r.chunks) takes.generic (omega arith))

  rest-count : length (waiting_in p t.buffers) ≡ length (rest_of r.limits.buffer_size (overflow r w p))
  rest-count = ap (λ (l : List SpillRow). length l) (at.waits p (omega arith) lt) ∙ length-map (rest_of r.limits.buffer_size (overflow r w p)) (spilled (key_types r.query))

  -- the buffers, once what waits is taken
  emptied-own : waiting_in p (with_rows p [] t.buffers) ≡ []
  emptied-own = get_or-set_same t.buffers.rows p [] [] (omega (arith, lt, at.buffers))

  emptied-other : (q : ℕ) → q ≢ p → waiting_in q (with_rows p [] t.buffers) ≡ waiting_in q t.buffers
  emptied-other q other = get_or-set_other t.buffers.rows p q [] [] other

  none-below : (q : ℕ) → q < p + 1 → waiting_in q (with_rows p [] t.buffers) ≡ []
  none-below q below = by (q == p) refl
    where
      by : (b : Bool) → (q == p) ≡ b → waiting_in q (with_rows p [] t.buffers) ≡ []
      by true is = let same : p ≡ q = grind (arith, nat_tests) in subst (λ k. waiting_in k (with_rows p [] t.buffers) ≡ []) same emptied-own
      by false is = let other : q ≢ p = grind (arith, nat_tests) in emptied-other q other ∙ at.none q (omega (arith, below, other))

  waits-above : (q : ℕ) → p + 1 ≤ q → q < r.limits.partitions → waiting_in q (with_rows p [] t.buffers) ≡ spilled_all r.query (rest_of r.limits.buffer_size (overflow r w q))
  waits-above q above there = emptied-other q (λ e. absurd (omega (arith, above, e))) ∙ at.waits q (omega arith) there

  -- the state with the shares given of those below
  closing-next : (h : SharesSeen) → h.worker ≡ s.worker → h.faults ≡ s.faults → share_of h p ≡ length (plan r w p) → ((q : ℕ) → q ≢ p → share_of h q ≡ share_of s q)
      → IsClosing r w (p + 1) (emptied p t) h
  closing-next h worker faults own others = record {
    worker = worker ∙ at.worker;
    faults = faults ∙ at.faults;
    shape = at.shape;
    buffers = length-set t.buffers.rows p [] ∙ at.buffers;
    sent = λ q below. by q below (q == p) refl;
    none = none-below;
    unsent = λ q above there. others q (λ e. absurd (omega (arith, above, e))) ∙ at.unsent q (omega arith) there;
    waits = waits-above;
  }
    where
      by : (q : ℕ) → q < p + 1 → (b : Bool) → (q == p) ≡ b → share_of h q ≡ length (plan r w q)
      by q below true is = let same : p ≡ q = grind (arith, nat_tests) in subst (λ k. share_of h k ≡ length (plan r w k)) same own
      by q below false is = let other : q ≢ p = grind (arith, nat_tests) in others q other ∙ at.sent q (omega (arith, below, other))

  -- nothing waits there
  pub closing-none : waiting_in p t.buffers ≡ [] → IsClosing r w (p + 1) (emptied p t) s
  closing-none is =
      let empty : length (rest_of r.limits.buffer_size (overflow r w p)) ≡ 0 = sym rest-count ∙ ap (λ (l : List SpillRow). length l) is in
      let none : rest_of r.limits.buffer_size (overflow r w p) ≡ [] = Rattle.std.proofs.lemmas.List.nil_from_length (rest_of r.limits.buffer_size (overflow r w p)) empty in
      closing-next s refl refl
      (at.unsent p (omega arith) lt ∙ sym (ap (λ (l : List PartitionEvent). length l) (plan-none r w p takes.runnable.limits.buffer takes.generic none)))
      (λ q other. refl)

  module _ (payload : Payload) (rows : payload.rows ≡ waiting_in p t.buffers) (some : waiting_in p t.buffers ≢ []) where
    any : 0 < length (rest_of r.limits.buffer_size (overflow r w p))
    any = by (waiting_in p t.buffers) refl
      where
        by : (l : List SpillRow) → waiting_in p t.buffers ≡ l → 0 < length (rest_of r.limits.buffer_size (overflow r w p))
        by [] is = absurd (some is)
        by (y ∷ ys) is = omega (arith, rest-count, ap (λ (l : List SpillRow). length l) is)

    -- the arrival of the rest is next
    pub rest-is-next : next_event r s p ≡ Some (event.Arrive s.worker)
    rest-is-next =
        ap (λ n. slice_get (plan r s.worker p) n) (at.unsent p (omega arith) lt)
        ∙ ap (λ v. slice_get (plan r v p) (length (events_before r w p (length r.chunks)))) at.worker
        ∙ rest-next r w p takes.runnable.limits.buffer takes.generic shut any
        ∙ ap (λ v. Some (event.Arrive v)) (sym at.worker)

    -- and brings it
    pub rest-is-piece : payload ≡ next_payload r s p
    rest-is-piece =
        let of_rows : List SpillRow → Payload = λ rows. record { rows = rows } in
        let piece : List Row → Payload = λ rows. payload_of (key_types r.query) rows in
        ap of_rows (rows ∙ at.waits p (omega arith) lt)
        ∙ ap piece (sym (rest-arrives r w p takes.runnable.limits.buffer takes.generic shut any))
        ∙ ap (λ v. piece (next_piece r v p (take (length (events_before r w p (length r.chunks))) (plan r v p)))) (sym at.worker)
        ∙ ap (λ n. piece (next_piece r s.worker p (take n (plan r s.worker p)))) (sym (at.unsent p (omega arith) lt))

    -- then it is sent
    pub closing-sent : length s.events ≡ r.limits.partitions → IsClosing r w (p + 1) (emptied p t) (raised s p)
    closing-sent count =
        let whole : length (plan r w p) ≡ length (events_before r w p (length r.chunks)) + 1 =
        ap (λ (l : List PartitionEvent). length l) (plan-last r w p takes.runnable.limits.buffer takes.generic shut any) ∙ length-append (events_before r w p (length r.chunks)) (event.Arrive w ∷ []) in
        closing-next (raised s p) refl refl
        (raised-own s p (omega (arith, lt, count)) ∙ ap (λ n. n + 1) (at.unsent p (omega arith) lt) ∙ sym whole)
        (λ q other. raised-other s p q other)

-- and so it is as the calls tell it
pub closing-none-at : (r : Run) (w p : ℕ) (t u : Local) (s : SharesSeen) → TakesTurns r → r.is_open ≡ false → p < r.limits.partitions → IsClosing r w p t s
    → waiting_in p t.buffers ≡ [] → u ≡ emptied p t → IsClosing r w (p + 1) u s
closing-none-at r w p t u s takes shut lt at none new = subst (λ (v : Local). IsClosing r w (p + 1) v s) (sym new) (closing-none r w p t s takes shut lt at none)

pub closing-sent-at : (r : Run) (w p : ℕ) (t u : Local) (s h : SharesSeen) → TakesTurns r → r.is_open ≡ false → p < r.limits.partitions → IsClosing r w p t s
    → (payload : Payload) → payload.rows ≡ waiting_in p t.buffers → waiting_in p t.buffers ≢ [] → length s.events ≡ r.limits.partitions → u ≡ emptied p t → h ≡ raised s p → IsClosing r w (p + 1) u h
closing-sent-at r w p t u s h takes shut lt at payload rows some count new sent =
    subst (λ (v : SharesSeen). IsClosing r w (p + 1) u v) (sym sent)
    (subst (λ (v : Local). IsClosing r w (p + 1) v (raised s p)) (sym new) (closing-sent r w p t s takes shut lt at payload rows some count))

-- all rests are sent: the worker has closed
pub closed-worker : (r : Run) (w : ℕ) (x y : WorkerSeen) → IsReady r w (length r.chunks) x → y.table.table ≡ x.table.table → y.closed ≡ true → y.stopped ≡ x.stopped
    → IsClosing r w r.limits.partitions y.table y.shares → HasClosed r w y
closed-worker r w x y ready table closed stopped at =
    let after = ready.after in
    let rows : rows_before r w (length r.chunks) ≡ of_worker r w = worker-all r w (length r.chunks) (omega arith) in
    record {
      shares = record { worker = at.worker; events = λ p lt. at.sent p lt; faults = at.faults };
      shape = ap (λ (u : Table). u.shape) table ∙ after.table.shape;
      holds =
          subst (λ (u : Table). Holds (shape_of r.query).prototypes u.groups (spilled_all r.query (kept_rows r w))) (sym table)
          (subst (λ (l : List Row). Holds (shape_of r.query).prototypes x.table.table.groups (map (spilled (key_types r.query)) (Rattle.pipe_tables.specs.After.kept_of r.limits l))) rows after.table.holds);
      none_waits = λ q d lt. Rattle.std.proofs.lemmas.List.get_or_default y.table.buffers.rows q d [] lt ∙ at.none q (omega (arith, lt, at.buffers));
      closed = closed;
      unstopped = stopped ∙ ready.unstopped;
    }
