-- The frames of a replay by the names of their pieces: each name comes once.
use Rattle.std.proofs.Common.{◌≡◌, ◌≢◌, ℕ, ◌<◌, ◌≤◌, ◌==◌, Bool, true, false, ◌&&◌, List, [], ◌∷◌, ◌++◌, length, map, refl, ap, sym, ◌∙◌, subst, arith, append_assoc, ⊎_elim}
use Rattle.std.specs.Prelude.{if◌then◌else◌, nat_lt}
use Rattle.std.specs.List.{AllByRecursion, flat_map, IsDistinct}
use Rattle.std.proofs.lemmas.Bool.{cases_eq, ltb-true, ne_eqb}
use Rattle.std.proofs.lemmas.List.{append-nil, length-map, map-append}
use Rattle.std.proofs.lemmas.List.Elements.{All-from_recursion, All-head, All-tail}
use Rattle.std.proofs.lemmas.List.Folds.{flat_map-map}
use Rattle.pipe_columns.specs.Row.{Row}
use Rattle.pipe_plan.specs.Journals.{AreOfWorkers, IsWithin}
use Rattle.pipe_plan.specs.declared.event.PartitionEvent.{PartitionEvent}
use Rattle.pipe_plan.specs.declared.event.PartitionEvent.TheVariants as event
use Rattle.pipe_plan.specs.Frames.{AreOfPieces, IsPiece, piece_rows, PieceName, same_piece}
use Rattle.pipe_plan.specs.Replay.{after_event, arrivals, events_by, joined_lists, nothing_yet, replay, replay_from, Replayed, worker_of}
use Rattle.pipe_plan.specs.Run.{Run}
use Rattle.pipe_plan.proofs.ChunkRows.{each-append, each-front, each-more}
use Rattle.pipe_plan.proofs.Fronts.{arrivals-within}
use Rattle.pipe_plan.proofs.Replaying.{arrivals-other, arrivals-own, arrivals-still, joined-append}

-- ---- distinct lists

-- one element more that none equals
distinct-push : {A : Type 0} (same : A → A → Bool) (xs : List A) (x : A) → IsDistinct same xs → AllByRecursion (λ y. same y x ≡ false) xs → IsDistinct same (xs ++ x ∷ [])
unfolding IsDistinct
distinct-push same [] x apart others = (tt, tt)
distinct-push same (y ∷ xs) x apart others = (each-append (λ z. same y z ≡ false) xs (x ∷ []) apart.0 (others.0, tt), distinct-push same xs x apart.1 others.1)

-- the front of a list whose elements are apart
distinct-front : {A : Type 0} (same : A → A → Bool) (xs ys : List A) → IsDistinct same (xs ++ ys) → IsDistinct same xs
unfolding IsDistinct
distinct-front same [] ys apart = tt
distinct-front same (x ∷ xs) ys apart = (each-front (λ z. same x z ≡ false) xs ys apart.0, distinct-front same xs ys apart.1)

-- ---- names

-- a name whose piece arrived
abbrev Arrived : Run → List PartitionEvent → PieceName → Type 0
Arrived r events n = (n.worker < r.limits.workers) × (n.number < arrivals (events_by n.worker events))

-- the waiting pieces and the frames by their names
record AreNamed (r : Run) (p : ℕ) (before : List PartitionEvent) (s : Replayed) : Type 0 where
  waiting : List PieceName
  frames : List (List PieceName)
  some : AllByRecursion (λ part. 0 < length part) frames
  waiting_rows : s.waiting ≡ map (piece_rows r p) waiting
  frame_rows : s.frames ≡ map (λ part. flat_map (piece_rows r p) part) frames
  apart : IsDistinct same_piece (joined_lists frames ++ waiting)
  arrived : AllByRecursion (Arrived r before) (joined_lists frames ++ waiting)

-- an event more changes no arrival for the worse
arrivals-grow : (w : ℕ) (events : List PartitionEvent) (e : PartitionEvent) → arrivals (events_by w events) ≤ arrivals (events_by w (events ++ e ∷ []))
arrivals-grow w events (event.Arrive v) = ⊎_elim
    (λ is. subst (λ (v : ℕ). arrivals (events_by w events) ≤ arrivals (events_by w (events ++ event.Arrive v ∷ []))) (sym is) (omega (arith, arrivals-own w events)))
    (λ apart. omega (arith, arrivals-other w events (event.Arrive v) apart))
    (cases_eq v w)
arrivals-grow w events (event.Merge v) = omega (arith, arrivals-still w events (event.Merge v) refl)
arrivals-grow w events (event.Dump v) = omega (arith, arrivals-still w events (event.Dump v) refl)

-- what arrived still did
still-arrived : (r : Run) (events : List PartitionEvent) (e : PartitionEvent) (names : List PieceName) → AllByRecursion (Arrived r events) names → AllByRecursion (Arrived r (events ++ e ∷ [])) names
still-arrived r events e names all =
    each-more (Arrived r events) (Arrived r (events ++ e ∷ [])) names (λ n h. (h.0, omega (arith, h.1, arrivals-grow n.worker events e))) all

-- a piece that arrived is another than the next
not_next : (r : Run) (before : List PartitionEvent) (v : ℕ) (n : PieceName) → Arrived r before n → same_piece n (record { worker = v; number = arrivals (events_by v before) }) ≡ false
not_next r before v n h =
    let k = arrivals (events_by v before) in
    ⊎_elim
    (λ is.
    let apart : n.number ≢ k = λ at. absurd (omega (arith, at, h.1, ap (λ w. arrivals (events_by w before)) is)) in
    ap (λ b. (n.worker == v) && b) (ne_eqb n.number k apart) ∙ and-false (n.worker == v))
    (λ apart. ap (λ b. b && (n.number == k)) (ne_eqb n.worker v apart))
    (cases_eq n.worker v)
  where
    and-false : (b : Bool) → (b && false) ≡ false
    and-false true = refl
    and-false false = refl

-- one event more
named-event : (r : Run) (p : ℕ) (before : List PartitionEvent) (s : Replayed) (e : PartitionEvent) → worker_of e < r.limits.workers → AreNamed r p before s → AreNamed r p (before ++ e ∷ []) (after_event r p before s e)
named-event r p before s (event.Arrive v) lt named =
    let name : PieceName = record { worker = v; number = arrivals (events_by v before) } in
    let old = joined_lists named.frames ++ named.waiting in
    let longer : (joined_lists named.frames ++ named.waiting) ++ name ∷ [] ≡ joined_lists named.frames ++ (named.waiting ++ name ∷ []) = append_assoc (joined_lists named.frames) named.waiting (name ∷ []) in
    record {
      waiting = named.waiting ++ name ∷ [];
      frames = named.frames;
      some = named.some;
      waiting_rows = ap (λ (ps : List (List Row)). ps ++ piece_rows r p name ∷ []) named.waiting_rows ∙ sym (map-append (piece_rows r p) named.waiting (name ∷ []));
      frame_rows = named.frame_rows;
      apart = subst (IsDistinct same_piece) longer (distinct-push same_piece old name named.apart (each-more (Arrived r before) (λ n. same_piece n name ≡ false) old (not_next r before v) named.arrived));
      arrived = subst (AllByRecursion (Arrived r (before ++ event.Arrive v ∷ []))) longer
          (each-append (Arrived r (before ++ event.Arrive v ∷ [])) old (name ∷ []) (still-arrived r before (event.Arrive v) old named.arrived) ((lt, omega (arith, arrivals-own v before)), tt));
    }
named-event r p before s (event.Merge v) lt named = record {
  waiting = [];
  frames = named.frames;
  some = named.some;
  waiting_rows = refl;
  frame_rows = named.frame_rows;
  apart = subst (IsDistinct same_piece) (sym (append-nil (joined_lists named.frames))) (distinct-front same_piece (joined_lists named.frames) named.waiting named.apart);
  arrived = subst (AllByRecursion (Arrived r (before ++ event.Merge v ∷ []))) (sym (append-nil (joined_lists named.frames)))
      (each-front (Arrived r (before ++ event.Merge v ∷ [])) (joined_lists named.frames) named.waiting (still-arrived r before (event.Merge v) (joined_lists named.frames ++ named.waiting) named.arrived));
}
named-event r p before s (event.Dump v) lt named = by (nat_lt r.limits.payload_limit (length s.waiting)) refl where
  put : Replayed
  put = record s { frames = s.frames ++ joined_lists s.waiting ∷ []; waiting = [] }

  names : List PieceName
  names = joined_lists named.frames ++ named.waiting

  still : AllByRecursion (Arrived r (before ++ event.Dump v ∷ [])) names
  still = still-arrived r before (event.Dump v) names named.arrived

  all : joined_lists (named.frames ++ named.waiting ∷ []) ++ [] ≡ names
  all = append-nil (joined_lists (named.frames ++ named.waiting ∷ [])) ∙ joined-append named.frames (named.waiting ∷ []) ∙ ap (λ (l : List PieceName). joined_lists named.frames ++ l) (append-nil named.waiting)

  long : nat_lt r.limits.payload_limit (length s.waiting) ≡ true → 0 < length named.waiting
  long more =
      omega (arith, ltb-true r.limits.payload_limit (length s.waiting) more, ap (λ (l : List (List Row)). length l) named.waiting_rows ∙ length-map named.waiting (piece_rows r p))

  by : (b : Bool) → nat_lt r.limits.payload_limit (length s.waiting) ≡ b → AreNamed r p (before ++ event.Dump v ∷ []) (if b then put else s)
  by true more = record {
    waiting = [];
    frames = named.frames ++ named.waiting ∷ [];
    some = each-append (λ (part : List PieceName). 0 < length part) named.frames (named.waiting ∷ []) named.some (long more, tt);
    waiting_rows = refl;
    frame_rows =
        ap (λ (fs : List (List Row)). fs ++ joined_lists s.waiting ∷ []) named.frame_rows
        ∙ ap (λ (l : List Row). map (λ part. flat_map (piece_rows r p) part) named.frames ++ l ∷ []) (ap joined_lists named.waiting_rows ∙ flat_map-map (λ (piece : List Row). piece) (piece_rows r p) named.waiting)
        ∙ sym (map-append (λ (part : List PieceName). flat_map (piece_rows r p) part) named.frames (named.waiting ∷ []));
    apart = subst (IsDistinct same_piece) (sym all) named.apart;
    arrived = subst (AllByRecursion (Arrived r (before ++ event.Dump v ∷ []))) (sym all) still;
  }
  by false less = record { waiting = named.waiting; frames = named.frames; some = named.some; waiting_rows = named.waiting_rows; frame_rows = named.frame_rows; apart = named.apart; arrived = still }

-- all events
named-from : (r : Run) (p : ℕ) (before : List PartitionEvent) (s : Replayed) (events : List PartitionEvent) → AreOfWorkers r events → AreNamed r p before s → AreNamed r p (before ++ events) (replay_from r p before s events)
named-from r p before s [] ours named = subst (λ (l : List PartitionEvent). AreNamed r p l s) (sym (append-nil before)) named
named-from r p before s (e ∷ events) ours named =
    subst (λ (l : List PartitionEvent). AreNamed r p l (replay_from r p before s (e ∷ events))) (append_assoc before (e ∷ []) events)
    (named-from r p (before ++ e ∷ []) (after_event r p before s e) events (All-tail (λ e. worker_of e < r.limits.workers) e events ours)
    (named-event r p before s e (All-head (λ e. worker_of e < r.limits.workers) e events ours) named))

-- the frames of a journal within the plans are of pieces that stand in no other
pub frames-apart : (r : Run) (p : ℕ) (journal : List PartitionEvent) → 0 < r.limits.buffer_size → IsWithin r p journal → AreOfPieces r p (replay r p journal).frames
unfolding IsDistinct
frames-apart r p journal some within =
    let named = named-from r p [] nothing_yet journal within.workers (record { waiting = []; frames = []; some = tt; waiting_rows = refl; frame_rows = refl; apart = tt; arrived = tt }) in
    record {
      names = named.frames;
      some = All-from_recursion (λ (part : List PieceName). 0 < length part) named.frames named.some;
      rows = named.frame_rows;
      apart = distinct-front same_piece (joined_lists named.frames) named.waiting named.apart;
      pieces = All-from_recursion (IsPiece r p) (joined_lists named.frames)
          (each-more (Arrived r journal) (IsPiece r p) (joined_lists named.frames) (λ n h. (h.0, omega (arith, h.1, arrivals-within r n.worker p (events_by n.worker journal) some (within.plans n.worker h.0))))
          (each-front (Arrived r journal) (joined_lists named.frames) named.waiting named.arrived));
    }
