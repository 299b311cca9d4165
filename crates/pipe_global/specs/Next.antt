-- What a worker does next in a partition.
use Rattle.std.specs.Prelude.{ℕ, Option, take, slice_get}
use Rattle.pipe_model.specs.Output.{key_types}
use Rattle.pipe_plan.specs.declared.event.PartitionEvent.{PartitionEvent}
use Rattle.pipe_plan.specs.Plan.{plan}
use Rattle.pipe_plan.specs.Replay.{next_piece}
use Rattle.pipe_plan.specs.Run.{Run}
use Rattle.pipe_spill.specs.SpillRow.{Payload, payload_of}
use Rattle.pipe_global.specs.Shares.{share_of, SharesSeen}

-- the event of its plan in partition p that follows those it has made there
abbrev pub next_event : Run → SharesSeen → ℕ → Option PartitionEvent
next_event r s p = slice_get (plan r s.worker p) (share_of s p)

-- the payload that its next arrival in partition p brings
abbrev pub next_payload : Run → SharesSeen → ℕ → Payload
next_payload r s p =
    payload_of (key_types r.query)
    (next_piece r s.worker p (take (share_of s p) (plan r s.worker p)))
