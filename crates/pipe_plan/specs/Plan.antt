-- The plan of a worker in a partition: its events there, in order.
use Rattle.std.specs.Prelude.{ℕ, ◌+◌, ◌-◌, ◌/◌, ◌%◌, ◌==◌, Bool, true, false, ◌&&◌, ◌||◌, nat_lt, List, [], ◌∷◌, ◌++◌, length, map, replicate, count_by, if◌then◌else◌}
use Rattle.std.specs.List.{filter, flat_map, range_with_len, slice_index_or}
use Rattle.pipe_plan.specs.declared.event.PartitionEvent.{PartitionEvent}
use Rattle.pipe_plan.specs.declared.event.PartitionEvent.TheVariants as event
use Rattle.pipe_plan.specs.declared.event.SpillAction.{SpillAction}
use Rattle.pipe_plan.specs.declared.event.SpillAction.TheVariants as action
use Rattle.pipe_plan.specs.Overflow.{overflow}
use Rattle.pipe_plan.specs.Run.{is_generic, is_turn_of, Run}

-- a worker's turns before position n: the positions of its chunks
abbrev pub turns_before : Run → ℕ → ℕ → List ℕ
turns_before r w n = filter (is_turn_of r w) (range_with_len 0 n)

-- how many rows the chunk at a position has
abbrev pub height_at : Run → ℕ → ℕ
height_at r i = slice_index_or (map (λ c. c.frame.height) r.chunks) i 0

-- the action after a worker's turn, by the turn's number: that of its list, past the list that of
-- its rule, and none where it has no rule
abbrev pub turn_action : List (List SpillAction) → List SpillAction → ℕ → ℕ → SpillAction
turn_action actions rules w turn =
    slice_index_or (slice_index_or actions w []) turn (slice_index_or rules w action.None)

-- the action after the turn at a position
abbrev pub action_at : Run → ℕ → SpillAction
action_at r i = turn_action r.actions r.rules (i % r.limits.workers) (i / r.limits.workers)

-- the event that an action asks of a worker, if any
abbrev pub events_of : ℕ → SpillAction → List PartitionEvent
events_of w action.EarlyMerge = event.Merge w ∷ []
events_of w action.Dump = event.Dump w ∷ []
events_of w action.None = []

-- whether an action asks for an event
abbrev pub asks : SpillAction → Bool
asks action.EarlyMerge = true
asks action.Dump = true
asks action.None = false

-- whether the turn at a position is a pick: its chunk has rows, and its action asks for an event
abbrev pub is_pick : Run → ℕ → Bool
is_pick r i = nat_lt 0 (height_at r i) && asks (action_at r i)

-- how many of a worker's turns before position n are picks
abbrev pub picks_before : Run → ℕ → ℕ → ℕ
picks_before r w n = count_by (is_pick r) (turns_before r w n)

-- the partition that a pick takes: with k picks before it, the worker plus k modulo the partitions
abbrev pub picked_partition : Run → ℕ → ℕ → ℕ
picked_partition r w i = (w + picks_before r w i) % r.limits.partitions

-- how many rows of the chunks before position n a worker sends to a partition
abbrev pub sent_before : Run → ℕ → ℕ → ℕ → ℕ
sent_before r w p n = count_by (λ x. nat_lt x.place.chunk n) (overflow r w p)

-- how many full pieces these rows make
abbrev pub full_before : Run → ℕ → ℕ → ℕ → ℕ
full_before r w p n = sent_before r w p n / r.limits.buffer_size

-- the events of the turn at a position: an arrival for each piece that it fills, then its pick
abbrev pub turn_events : Run → ℕ → ℕ → ℕ → List PartitionEvent
turn_events r w p i =
    replicate (full_before r w p (i + 1) - full_before r w p i) (event.Arrive w)
    ++ (if is_pick r i && (picked_partition r w i == p) then events_of w (action_at r i) else [])

-- the events of a worker's turns before position n
abbrev pub events_before : Run → ℕ → ℕ → ℕ → List PartitionEvent
events_before r w p n = flat_map (turn_events r w p) (turns_before r w n)

-- at the end, where no chunk may follow and rows stand behind the full pieces: one arrival
abbrev pub last_events : Run → ℕ → ℕ → List PartitionEvent
last_events r w p =
    if r.is_open || (length (overflow r w p) % r.limits.buffer_size == 0) then []
    else event.Arrive w ∷ []

-- a worker's events in a partition: those of its turns, then at the end; none in a typed sink
abbrev pub plan : Run → ℕ → ℕ → List PartitionEvent
plan r w p =
    if is_generic r.limits.sink then events_before r w p (length r.chunks) ++ last_events r w p
    else []
