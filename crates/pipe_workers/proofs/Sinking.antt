-- A worker takes the chunk that is its next turn, and the chunks of a round.
use Rattle.std.proofs.Common.{◌≡◌, ◌≢◌, ◌∙◌, ◌+◌, ◌*◌, ◌/◌, ◌%◌, ◌<◌, ◌^◌, ℕ, Bool, suc, true, false, List, [], ◌∷◌, ◌++◌, length, get_or, Some, slice_get, refl, sym, ap, subst, arith, length-append}
use Rattle.std.proofs.lemmas.Bool.{eq-eqb, ne_eqb}
use Rattle.std.proofs.lemmas.Option.{slice_get_read, slice_get_within}
use Rattle.pipe_columns.specs.declared.data_chunk.DataChunk.{DataChunk}
use Rattle.pipe_plan.specs.declared.event.SpillAction.{SpillAction}
use Rattle.pipe_plan.specs.Plan.{action_at, turn_action}
use Rattle.pipe_plan.specs.Run.{is_turn_of, Run}
use Rattle.pipe_tables.specs.LocalTable.{Local}
use Rattle.pipe_global.specs.Shares.{SharesSeen}
use Rattle.pipe_workers.specs.Rounds.{IsRoundOf, RoundSeen}
use Rattle.pipe_workers.specs.Steps.{IsAtTurn}
use Rattle.pipe_workers.specs.Turns.{IsAfterTurns, IsReady}
use Rattle.pipe_workers.specs.Workers.{next_position, TakesTurns, WorkerSeen}
use Rattle.pipe_workers.proofs.Positions.{passed, position-is, position-turn, turns-small, turn-taken}

-- ---- one turn

-- a worker of these parts
abbrev pub seen : Local → SharesSeen → ℕ → Bool → Bool → WorkerSeen
seen t h j closed stopped = record { table = t; shares = h; turns = j; closed = closed; stopped = stopped }

module _ (r : Run) (t : Local) (h : SharesSeen) (j : ℕ) (closed stopped : Bool) (x : WorkerSeen) (view : seen t h j closed stopped ≡ x)
    (m v : ℕ) (worker : v ≡ h.worker) (lt : v < r.limits.workers) (count : m ≡ r.limits.workers) (chunk : DataChunk)
    (at : slice_get r.chunks (next_position r x) ≡ Some chunk) (ready : IsReady r x.shares.worker (next_position r x) x) where
  abbrev y : WorkerSeen
  y = seen t h j closed stopped

  place : v + j * m ≡ next_position r y
  place = ap (λ a. a + j * m) worker ∙ ap (λ b. h.worker + j * b) count

  at-own : slice_get r.chunks (next_position r y) ≡ Some chunk
  at-own = subst (λ (z : WorkerSeen). slice_get r.chunks (next_position r z) ≡ Some chunk) (sym view) at

  ready-own : IsReady r h.worker (next_position r y) y
  ready-own = subst (λ (z : WorkerSeen). IsReady r z.shares.worker (next_position r z) z) (sym view) ready

  own : is_turn_of r h.worker (next_position r y) ≡ true
  own = position-turn r y (omega (arith, worker, lt))

  -- it comes to the turn
  pub sink-begins : IsAtTurn r h.worker (v + j * m) chunk t h
  sink-begins = subst (λ n. IsAtTurn r h.worker n chunk t h) (sym place) (record { at = at-own; turn = own; after = ready-own.after })

  -- its position has a number
  pub sink-place : TakesTurns r → v + j * m < 2 ^ 32
  sink-place takes =
      let within : next_position r y < length r.chunks = slice_get_within r.chunks (next_position r y) chunk at-own in
      omega (arith, place, within, takes.chunks.number)

  -- its turns have numbers
  pub sink-few : TakesTurns r → j + 1 < 2 ^ 64
  sink-few takes = turns-small r y chunk takes at-own

  -- the turn is taken
  pub sink-ends : (u : Local) (g : SharesSeen) → IsAfterTurns r h.worker (v + j * m + 1) u g → IsReady r x.shares.worker (next_position r x + 1) (seen u g (j + 1) closed stopped)
  sink-ends u g after =
      let new : WorkerSeen = seen u g (j + 1) closed stopped in
      subst (λ (z : WorkerSeen). IsReady r z.shares.worker (next_position r z + 1) new) view
      (turn-taken r h.worker (next_position r y) y new own ready-own (subst (λ n. IsAfterTurns r h.worker (n + 1) u g) place after) refl refl refl)

-- ---- a chunk of a round

-- an element behind others
behind : {A : Type 0} (xs ys : List A) (k : ℕ) → slice_get (xs ++ ys) (length xs + k) ≡ slice_get ys k
behind [] ys k = ap (slice_get ys) {x = 0 + k} {y = k} (omega arith)
behind {A = A} (x ∷ xs) ys k = ap (λ n. slice_get (x ∷ (xs ++ ys)) n) {x = length (x ∷ xs) + k} {y = suc (length xs + k)} (omega arith) ∙ behind xs ys k

module _ (r : Run) (round : RoundSeen) (of_run : IsRoundOf r round) (k : ℕ) (lt : k < length round.chunks) (x : WorkerSeen) (takes : TakesTurns r)
    (ready : IsReady r x.shares.worker (round.first + k) x) (m v : ℕ) (count : m ≡ r.limits.workers) (worker : v ≡ x.shares.worker) where
  -- it stands in the run
  within : round.first + k < length r.chunks
  within = omega (arith, lt, of_run.first, ap (λ (l : List DataChunk). length l) of_run.chunks, length-append of_run.taken round.chunks)

  chunk-at : (chunk : DataChunk) → chunk ≡ get_or round.chunks k chunk → slice_get r.chunks (round.first + k) ≡ Some chunk
  chunk-at chunk is =
      ap (λ (l : List DataChunk). slice_get l (round.first + k)) of_run.chunks
      ∙ ap (λ n. slice_get (of_run.taken ++ round.chunks) (n + k)) of_run.first
      ∙ behind of_run.taken round.chunks k
      ∙ slice_get_read round.chunks (length round.chunks) k chunk refl lt is

  -- it is another worker's
  pub chunk-passed : (round.first + k) % m ≢ v → IsReady r x.shares.worker (round.first + (k + 1)) x
  chunk-passed other =
      let not_own : is_turn_of r x.shares.worker (round.first + k) ≡ false =
      ne_eqb ((round.first + k) % r.limits.workers) x.shares.worker (λ e. other (ap (λ n. (round.first + k) % n) count ∙ e ∙ sym worker)) in
      subst (λ n. IsReady r x.shares.worker n x) {x = round.first + k + 1} {y = round.first + (k + 1)} (omega arith) (passed r x.shares.worker (round.first + k) x within not_own ready)

  module _ (mine : (round.first + k) % m ≡ v) where
    own-rest : (round.first + k) % r.limits.workers ≡ x.shares.worker
    own-rest = ap (λ n. (round.first + k) % n) (sym count) ∙ mine ∙ worker

    chunk-own : is_turn_of r x.shares.worker (round.first + k) ≡ true
    chunk-own = eq-eqb ((round.first + k) % r.limits.workers) x.shares.worker own-rest

    -- it is the worker's next turn
    chunk-next : next_position r x ≡ round.first + k
    chunk-next = position-is r x.shares.worker (round.first + k) x takes chunk-own ready

    pub chunk-ready : IsReady r x.shares.worker (next_position r x) x
    chunk-ready = subst (λ n. IsReady r x.shares.worker n x) (sym chunk-next) ready

    pub chunk-is : (chunk : DataChunk) → chunk ≡ get_or round.chunks k chunk → slice_get r.chunks (next_position r x) ≡ Some chunk
    chunk-is chunk is = ap (slice_get r.chunks) chunk-next ∙ chunk-at chunk is

    -- with its action
    pub chunk-action : (a : SpillAction) → a ≡ turn_action round.actions round.rules v ((round.first + k) / m) → a ≡ action_at r (next_position r x)
    chunk-action a is =
        is
        ∙ ap (λ (l : List (List SpillAction)). turn_action l round.rules v ((round.first + k) / m)) (sym of_run.actions)
        ∙ ap (λ (l : List SpillAction). turn_action r.actions l v ((round.first + k) / m)) (sym of_run.rules)
        ∙ ap (λ i. turn_action r.actions r.rules i ((round.first + k) / m)) (worker ∙ sym own-rest)
        ∙ ap (λ n. turn_action r.actions r.rules ((round.first + k) % r.limits.workers) ((round.first + k) / n)) count
        ∙ ap (λ n. action_at r n) (sym chunk-next)

    -- it is taken
    pub chunk-taken : (y : WorkerSeen) → IsReady r x.shares.worker (next_position r x + 1) y → IsReady r x.shares.worker (round.first + (k + 1)) y
    chunk-taken y done =
        subst (λ n. IsReady r x.shares.worker n y) {x = next_position r x + 1} {y = round.first + (k + 1)} (omega (arith, chunk-next)) done
