-- A run that has ended.
use Rattle.std.specs.Prelude.{ℕ, List, Option}
use Rattle.pipe_plan.specs.declared.event.PartitionEvent.{PartitionEvent}
use Rattle.pipe_plan.specs.Run.{StoreSeen}
use Rattle.lavzimo_answer.specs.declared.fault.Fault.{Fault}

-- its status, the journal of each partition, and the stores
pub record EndSeen : Type 0 where
  pub status : ℕ
  pub journals : List (List PartitionEvent)
  pub stores : List StoreSeen

-- the same before its fault is told, if it has one
pub record RanSeen : Type 0 where
  pub fault : Option Fault
  pub journals : List (List PartitionEvent)
  pub stores : List StoreSeen
