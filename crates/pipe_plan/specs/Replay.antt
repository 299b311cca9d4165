-- The replay of a partition's journal.
use Rattle.std.specs.Prelude.{ℕ, ◌==◌, Bool, true, false, nat_lt, List, [], ◌∷◌, ◌++◌, length, count_by, if◌then◌else◌}
use Rattle.std.specs.List.{filter, flat_map, slice_index_or}
use Rattle.pipe_columns.specs.Row.{Row}
use Rattle.pipe_plan.specs.declared.event.PartitionEvent.{PartitionEvent}
use Rattle.pipe_plan.specs.declared.event.PartitionEvent.TheVariants as event
use Rattle.pipe_plan.specs.Payloads.{payloads}
use Rattle.pipe_plan.specs.Run.{Run}

-- the worker that made an event
abbrev pub worker_of : PartitionEvent → ℕ
worker_of (event.Arrive w) = w
worker_of (event.Merge w) = w
worker_of (event.Dump w) = w

-- the events that a worker made, in order
abbrev pub events_by : ℕ → List PartitionEvent → List PartitionEvent
events_by w events = filter (λ e. worker_of e == w) events

-- whether an event lets a piece arrive
abbrev pub is_arrival : PartitionEvent → Bool
is_arrival (event.Arrive w) = true
is_arrival (event.Merge w) = false
is_arrival (event.Dump w) = false

-- how many of some events let a piece arrive
abbrev pub arrivals : List PartitionEvent → ℕ
arrivals events = count_by is_arrival events

-- lists joined, in order
abbrev pub joined_lists : {A : Type 0} → List (List A) → List A
joined_lists lists = flat_map (λ list. list) lists

-- what events made of a partition: the rows merged, the pieces that wait, and each frame's rows
pub record Replayed : Type 0 where
  pub merged : List Row
  pub waiting : List (List Row)
  pub frames : List (List Row)

-- before the first event: no row, no piece and no frame
abbrev pub nothing_yet : Replayed
nothing_yet = record { merged = []; waiting = []; frames = [] }

-- a piece comes to wait, behind the others
abbrev pub after_arrival : List Row → Replayed → Replayed
after_arrival piece s = record s { waiting = s.waiting ++ piece ∷ [] }

-- the rows of all waiting pieces are merged, and none waits
abbrev pub after_merge : Replayed → Replayed
after_merge s = record s { merged = s.merged ++ joined_lists s.waiting; waiting = [] }

-- where more pieces wait than the limit, their rows become one frame, and none waits
abbrev pub after_dump : ℕ → Replayed → Replayed
after_dump limit s =
    if nat_lt limit (length s.waiting)
    then record s { frames = s.frames ++ joined_lists s.waiting ∷ []; waiting = [] }
    else s

-- the piece that a worker's next arrival brings: behind k arrivals it is piece k, from 0
abbrev pub next_piece : Run → ℕ → ℕ → List PartitionEvent → List Row
next_piece r w p made = slice_index_or (payloads r w p) (arrivals made) []

-- partition p after one more event, behind those made before
abbrev pub after_event : Run → ℕ → List PartitionEvent → Replayed → PartitionEvent → Replayed
after_event r p before s (event.Arrive w) = after_arrival (next_piece r w p (events_by w before)) s
after_event r p before s (event.Merge w) = after_merge s
after_event r p before s (event.Dump w) = after_dump r.limits.payload_limit s

-- partition p after further events, behind those made before
abbrev pub replay_from : Run → ℕ → List PartitionEvent → Replayed → List PartitionEvent → Replayed
replay_from r p before s [] = s
replay_from r p before s (e ∷ events) =
    replay_from r p (before ++ e ∷ []) (after_event r p before s e) events

-- partition p after the events of its journal
abbrev pub replay : Run → ℕ → List PartitionEvent → Replayed
replay r p journal = replay_from r p [] nothing_yet journal
