-- Of the proofs alone: a run before its fault is told.
use Rattle.std.specs.Prelude.{◌≡◌, ◌⊎◌, true, List, [], Option, Some, None, ⊤}
use Rattle.pipe_io.specs.Files.{Files}
use Rattle.pipe_plan.specs.declared.event.PartitionEvent.{PartitionEvent}
use Rattle.pipe_plan.specs.Run.{StoreSeen}
use Rattle.lavzimo_run.specs.Jobs.{JobSeen}
use Rattle.lavzimo_run.specs.Running.{HasStopped, IsEnd}
use Rattle.lavzimo_words.specs.Asked.{EndedBy, Words, ask, ended, is_fault, refused}
use Rattle.lavzimo_answer.specs.declared.fault.Fault.{Fault}
use Rattle.lavzimo_answer.specs.declared.fault.Fault.TheVariants as fault
use Rattle.lavzimo_answer.specs.Headline.{IsHelp}
use Rattle.lavzimo_answer.specs.Names.{NamesSeen, names_seen}

-- a fault that comes before anything is written
abbrev pub IsBefore : Fault → Type 0
IsBefore (fault.Faulty text) = ⊤
IsBefore (fault.Refused r) = ⊤
IsBefore (fault.Unread name e) = ⊤
IsBefore (fault.NoQuery name why) = ⊤
IsBefore (fault.Run names e) = ⊤
IsBefore fault.OutputFailed = ⊥
IsBefore fault.Memory = ⊥

-- how a run for words that ask nothing ends, by its fault, if it has one
abbrev pub FaultUnasked : Words → Option Fault → Type 0
FaultUnasked (ask a) f = ⊤
FaultUnasked (refused r) f = (f ≡ Some (fault.Refused r)) ⊎ (f ≡ Some fault.Memory)
FaultUnasked (ended kinds) None = IsHelp (ended kinds)
FaultUnasked (ended kinds) (Some (fault.Faulty text)) = EndedBy (λ k. is_fault k ≡ true) (ended kinds)
FaultUnasked (ended kinds) (Some (fault.Refused r)) = ⊥
FaultUnasked (ended kinds) (Some (fault.Unread name e)) = ⊥
FaultUnasked (ended kinds) (Some (fault.NoQuery name why)) = ⊥
FaultUnasked (ended kinds) (Some (fault.Run names e)) = ⊥
FaultUnasked (ended kinds) (Some fault.OutputFailed) = IsHelp (ended kinds)
FaultUnasked (ended kinds) (Some fault.Memory) = ⊤

-- what a fault says of the run of a job: it stopped for this, or it was answered
abbrev pub IsJobFault :
    Fault → NamesSeen → JobSeen → Option Files → List (List PartitionEvent) → List StoreSeen → Type 0
IsJobFault (fault.Faulty text) n j told journals stores = ⊥
IsJobFault (fault.Refused r) n j told journals stores = ⊥
IsJobFault (fault.Unread name e) n j told journals stores = ⊥
IsJobFault (fault.NoQuery name why) n j told journals stores = ⊥
IsJobFault (fault.Run names e) n j told journals stores =
    (names_seen names ≡ n) × IsEnd e j told stores × (journals ≡ []) × HasStopped j told stores
IsJobFault fault.OutputFailed n j told journals stores = ⊤
IsJobFault fault.Memory n j told journals stores = ⊤
