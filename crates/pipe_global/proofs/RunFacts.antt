-- What a run gives the replay of a journal: rows of its types, few of them, and few frames.
use Rattle.std.proofs.Common.{◌≡◌, ◌∙◌, ◌+◌, ◌≤◌, ◌<◌, ◌%◌, ◌==◌, ℕ, zero, suc, Bool, true, false, not, List, [], ◌∷◌, ◌++◌, length, take, refl, sym, ap, subst, arith, length-append}
use Rattle.std.specs.Prelude.{if◌then◌else◌, nat_lt}
use Rattle.std.specs.List.{All, count_by, filter, slice_index_or}
use Rattle.std.proofs.lemmas.List.{append-nil}
use Rattle.std.proofs.lemmas.List.Elements.{All-append, All-cons, All-filter, All-nil}
use Rattle.std.proofs.lemmas.List.Filters.{length-filter_both}
use Rattle.std.proofs.Math.Nat.{mod-lt}
use Rattle.pipe_columns.specs.Pieces.{pieces}
use Rattle.pipe_columns.specs.Row.{Row}
use Rattle.pipe_plan.specs.declared.event.PartitionEvent.{PartitionEvent}
use Rattle.pipe_plan.specs.declared.event.PartitionEvent.TheVariants as event
use Rattle.pipe_plan.specs.Journals.{AreOfWorkers}
use Rattle.pipe_plan.specs.Kept.{is_kept}
use Rattle.pipe_plan.specs.Overflow.{overflow, overflows, partition_of}
use Rattle.pipe_plan.specs.Payloads.{full_pieces, payloads, rest_of}
use Rattle.pipe_plan.specs.Replay.{after_event, arrivals, events_by, joined_lists, next_piece, nothing_yet, replay, replay_from, Replayed}
use Rattle.pipe_plan.specs.Rounds.{IsFront}
use Rattle.pipe_plan.specs.Run.{all_rows, is_turn_of, of_worker, Run}
use Rattle.pipe_plan.specs.Whole.{rows_of}
use Rattle.pipe_plan.proofs.Adding.{sum_to, sum_to-le}
use Rattle.pipe_plan.proofs.AllRows.{count-parts}
use Rattle.pipe_plan.proofs.ChunkRows.{each-any}
use Rattle.pipe_plan.proofs.Cutting.{joined-full_rest, joined-pieces}
use Rattle.pipe_plan.proofs.Filtering.{count-all}
use Rattle.pipe_plan.proofs.Replaying.{joined-append, replay-rows, taken}
use Rattle.pipe_global.proofs.Covering.{all-left, all-right}

-- ---- pieces

-- all pieces are a front of the overflow, joined
pub payloads-front : (r : Run) (w p : ℕ) → 0 < r.limits.buffer_size → IsFront (joined_lists (payloads r w p)) (overflow r w p)
payloads-front r w p some = by r.is_open where
  by : (o : Bool) → IsFront (joined_lists (if o then full_pieces r.limits.buffer_size (overflow r w p) else pieces r.limits.buffer_size (overflow r w p))) (overflow r w p)
  by true = record { rest = rest_of r.limits.buffer_size (overflow r w p); is = sym (joined-full_rest r.limits.buffer_size (overflow r w p) some) }
  by false = record { rest = []; is = sym (append-nil (joined_lists (pieces r.limits.buffer_size (overflow r w p))) ∙ joined-pieces r.limits.buffer_size (overflow r w p) some) }

-- what all have, each of a piece has
all-piece : {A : Type 0} (P : A → Type 0) (ps : List (List A)) (k : ℕ) → All P (joined_lists ps) → All P (slice_index_or ps k [])
all-piece P [] k all = All-nil P
all-piece P (x ∷ ps) zero all = all-left P x (joined_lists ps) all
all-piece P (x ∷ ps) (suc k) all = all-piece P ps k (all-right P x (joined_lists ps) all)

-- a piece more
all-push : {A : Type 0} (P : A → Type 0) (ps : List (List A)) (x : List A) → All P (joined_lists ps) → All P x → All P (joined_lists (ps ++ x ∷ []))
all-push {A = A} P ps x all own =
    let is : joined_lists ps ++ x ≡ joined_lists (ps ++ x ∷ []) = ap (λ (l : List A). joined_lists ps ++ l) (sym (append-nil x)) ∙ sym (joined-append ps (x ∷ [])) in
    subst (All P) is (All-append P (joined_lists ps) x all own)

-- ---- each row is one of the run's

-- what each row of the three parts has
pub record Each (P : Row → Type 0) (s : Replayed) : Type 0 where
  pub merged : All P s.merged
  pub waiting : All P (joined_lists s.waiting)
  pub frames : All P (joined_lists s.frames)

module _ (P : Row → Type 0) (r : Run) (p : ℕ) (some : 0 < r.limits.buffer_size) (sent : (w : ℕ) → All P (overflow r w p)) where
  next-each : (w : ℕ) (made : List PartitionEvent) → All P (next_piece r w p made)
  next-each w made =
      let front = payloads-front r w p some in
      all-piece P (payloads r w p) (arrivals made) (all-left P (joined_lists (payloads r w p)) front.rest (subst (All P) front.is (sent w)))

  dump-each : (s : Replayed) (b : Bool) → Each P s → Each P (if b then record s { frames = s.frames ++ joined_lists s.waiting ∷ []; waiting = [] } else s)
  dump-each s true each = record { merged = each.merged; waiting = All-nil P; frames = all-push P s.frames (joined_lists s.waiting) each.frames each.waiting }
  dump-each s false each = each

  event-each : (before : List PartitionEvent) (s : Replayed) (e : PartitionEvent) → Each P s → Each P (after_event r p before s e)
  event-each before s (event.Arrive w) each = record {
    merged = each.merged;
    waiting = all-push P s.waiting (next_piece r w p (events_by w before)) each.waiting (next-each w (events_by w before));
    frames = each.frames;
  }
  event-each before s (event.Merge w) each = record { merged = All-append P s.merged (joined_lists s.waiting) each.merged each.waiting; waiting = All-nil P; frames = each.frames }
  event-each before s (event.Dump w) each = dump-each s (nat_lt r.limits.payload_limit (length s.waiting)) each

  events-each : (before : List PartitionEvent) (s : Replayed) (events : List PartitionEvent) → Each P s → Each P (replay_from r p before s events)
  events-each before s [] each = each
  events-each before s (e ∷ events) each = events-each (before ++ e ∷ []) (after_event r p before s e) events (event-each before s e each)

  -- each row of a replay has what each row that workers send has
  sent-each : (journal : List PartitionEvent) → Each P (replay r p journal)
  sent-each journal = events-each [] nothing_yet journal (record { merged = All-nil P; waiting = All-nil P; frames = All-nil P })

-- it has what each row of the run has
pub replay-each : (P : Row → Type 0) (r : Run) (p : ℕ) → 0 < r.limits.buffer_size → All P (all_rows r) → (journal : List PartitionEvent) → Each P (replay r p journal)
replay-each P r p some all =
    sent-each P r p some (λ w. All-filter (overflows r w p) P (of_worker r w) (All-filter (λ x. is_turn_of r w x.place.chunk) P (all_rows r) all))

-- and its key lies in the partition
pub lies-each : (r : Run) (p : ℕ) → 0 < r.limits.buffer_size → (journal : List PartitionEvent) → Each (λ x. (partition_of r x == p) ≡ true) (replay r p journal)
lies-each r p some = sent-each P r p some (λ w. lie w (of_worker r w)) where
  P : Row → Type 0
  P x = (partition_of r x == p) ≡ true

  lie : (w : ℕ) (rows : List Row) → All P (filter (overflows r w p) rows)
  lie w [] = All-nil P
  lie w (x ∷ rows) = by (partition_of r x == p) (not (is_kept r w x)) refl refl (lie w rows) where
    by : (a b : Bool) → (partition_of r x == p) ≡ a → not (is_kept r w x) ≡ b → All P (filter (overflows r w p) rows) → All P (filter (overflows r w p) (x ∷ rows))
    by true true ea eb rest = rw (ea, eb) (All-cons P x (filter (overflows r w p) rows) ea rest)
    by true false ea eb rest = rw (ea, eb) rest
    by false b ea eb rest = rw ea rest

-- ---- few rows

pub length-kept : {A : Type 0} (test : A → Bool) (xs : List A) → length (filter test xs) ≤ length xs
length-kept test xs = omega (arith, length-filter_both test (λ x. not (test x)) (λ x. refl) xs)

length-taken : {A : Type 0} (ps : List (List A)) (k : ℕ) → length (joined_lists (take k ps)) ≤ length (joined_lists ps)
length-taken ps zero = omega arith
length-taken [] (suc k) = omega arith
length-taken (x ∷ ps) (suc k) = omega (arith, length-taken ps k, length-append x (joined_lists (take k ps)), length-append x (joined_lists ps))

every : (xs : List Row) → count_by (λ x. true) xs ≡ length xs
every xs = count-all (λ x. true) xs (λ front back x is. refl)

-- a partition holds no more rows than there are
pub rows-few : (r : Run) (p : ℕ) (journal : List PartitionEvent) → 0 < r.limits.workers → 0 < r.limits.buffer_size → AreOfWorkers r journal → length (rows_of (replay r p journal)) ≤ length (all_rows r)
rows-few r p journal workers some ours =
    let held : count_by (λ x. true) (rows_of (replay r p journal)) ≡ sum_to r.limits.workers (taken (λ x. true) r p journal) = replay-rows (λ x. true) r p journal ours in
    let fewer : sum_to r.limits.workers (taken (λ x. true) r p journal) ≤ sum_to r.limits.workers (λ w. count_by (λ x. true) (of_worker r w)) = sum_to-le r.limits.workers (taken (λ x. true) r p journal) (λ w. count_by (λ x. true) (of_worker r w)) (λ w lt. one w) in
    let dealt = count-parts (λ x. true) (λ (x : Row). x.place.chunk % r.limits.workers) r.limits.workers (all_rows r) (each-any (λ (x : Row). x.place.chunk % r.limits.workers < r.limits.workers) (all_rows r) (λ x. mod-lt x.place.chunk workers)) in
    omega (arith, held, fewer, dealt, every (rows_of (replay r p journal)), every (all_rows r))
  where
    one : (w : ℕ) → taken (λ x. true) r p journal w ≤ count_by (λ x. true) (of_worker r w)
    one w =
        let front = payloads-front r w p some in
        let ps = payloads r w p in
        let k = arrivals (events_by w journal) in
        let sent : length (overflow r w p) ≡ length (joined_lists ps) + length front.rest = ap (λ (l : List Row). length l) front.is ∙ length-append (joined_lists ps) front.rest in
        omega (arith, sent, every (joined_lists (take k ps)), every (of_worker r w), length-taken ps k, length-kept (overflows r w p) (of_worker r w))

-- ---- few frames

frames-more : (r : Run) (p : ℕ) (before : List PartitionEvent) (s : Replayed) (e : PartitionEvent) → length (after_event r p before s e).frames ≤ length s.frames + 1
frames-more r p before s (event.Arrive w) = omega arith
frames-more r p before s (event.Merge w) = omega arith
frames-more r p before s (event.Dump w) = by (nat_lt r.limits.payload_limit (length s.waiting)) where
  by : (b : Bool) → length (if b then record s { frames = s.frames ++ joined_lists s.waiting ∷ []; waiting = [] } else s).frames ≤ length s.frames + 1
  by true = omega (arith, length-append s.frames (joined_lists s.waiting ∷ []))
  by false = omega arith

frames-from : (r : Run) (p : ℕ) (before : List PartitionEvent) (s : Replayed) (events : List PartitionEvent) → length (replay_from r p before s events).frames ≤ length s.frames + length events
frames-from r p before s [] = omega arith
frames-from r p before s (e ∷ events) = omega (arith, frames-from r p (before ++ e ∷ []) (after_event r p before s e) events, frames-more r p before s e)

-- there are no more frames than events
pub frames-few : (r : Run) (p : ℕ) (journal : List PartitionEvent) → length (replay r p journal).frames ≤ length journal
frames-few r p journal = omega (arith, frames-from r p [] nothing_yet journal)
