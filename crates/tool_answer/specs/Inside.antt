-- Of the proofs alone: a run before its fault is told, and where its fault comes from.
use Rattle.std.specs.Prelude.{◌≡◌, ◌⊎◌, List, Option, Some, IfSome, ⊤}
use Rattle.pipe_csv.specs.declared.csv_error.CsvError.{CsvError}
use Rattle.pipe_csv.specs.declared.csv_error.CsvError.TheVariants as csv_error
use Rattle.pipe_io.specs.Files.{Files}
use Rattle.pipe_plan.specs.declared.event.PartitionEvent.{PartitionEvent}
use Rattle.pipe_plan.specs.Run.{StoreSeen}
use Rattle.pipe_run.specs.declared.error.PipeError.{PipeError}
use Rattle.pipe_run.specs.declared.error.PipeError.TheVariants as pipe_error
use Rattle.tool_run.specs.declared.error.FileRunError.{FileRunError}
use Rattle.tool_run.specs.declared.error.FileRunError.TheVariants as run_error
use Rattle.tool_words.specs.Asked.{Asked, asks, makes, refused}
use Rattle.tool_words.specs.declared.refusal.AskError.{AskError}
use Rattle.tool_words.specs.declared.refusal.AskError.TheVariants as ask_error
use Rattle.tool_answer.specs.declared.fault.ToolFault.{ToolFault}
use Rattle.tool_answer.specs.declared.fault.ToolFault.TheVariants as fault
use Rattle.tool_answer.specs.Headline.{HasNoRun, HasRun, HasStopped}

-- a run that has ended, before its fault is told, if it has one
pub record RanSeen : Type 0 where
  pub fault : Option ToolFault
  pub journals : List (List PartitionEvent)
  pub stores : List StoreSeen

-- what a fault leaves: nothing where words are refused, an answered run where its text was to be
-- written, and else a run that stopped; of want of memory any of these
abbrev pub IsLeft :
    ToolFault → Asked → Option Files → List (List PartitionEvent) → List StoreSeen → Type 0
IsLeft (fault.Refused r) a told journals stores = HasNoRun journals stores
IsLeft (fault.Missing file) a told journals stores = HasStopped a told journals stores
IsLeft (fault.Header file) a told journals stores = HasStopped a told journals stores
IsLeft (fault.Width file row) a told journals stores = HasStopped a told journals stores
IsLeft (fault.Field file row column) a told journals stores = HasStopped a told journals stores
IsLeft fault.InputFailed a told journals stores = HasStopped a told journals stores
IsLeft fault.OutputFailed a told journals stores = HasRun a told journals stores
IsLeft fault.TooLarge a told journals stores = HasStopped a told journals stores
IsLeft (fault.Store p) a told journals stores = HasStopped a told journals stores
IsLeft (fault.Damaged p n) a told journals stores = HasStopped a told journals stores
IsLeft fault.Memory a told journals stores =
    HasNoRun journals stores ⊎ HasStopped a told journals stores ⊎ HasRun a told journals stores

-- a fault that comes before anything is written
abbrev pub IsBefore : ToolFault → Type 0
IsBefore fault.OutputFailed = ⊥
IsBefore fault.Memory = ⊥
IsBefore f = ⊤

-- a fault of a run over files
abbrev pub IsOfRun : ToolFault → Type 0
IsOfRun (fault.Refused r) = ⊥
IsOfRun fault.OutputFailed = ⊥
IsOfRun f = ⊤

-- words that are refused end so, or memory runs out
abbrev pub EndsRefused : Asked → Option ToolFault → Type 0
EndsRefused (refused r) ended = (ended ≡ Some (fault.Refused r)) ⊎ (ended ≡ Some fault.Memory)
EndsRefused (asks p q) ended = ⊤
EndsRefused (makes p m) ended = ⊤

-- a fault of a run over generated rows
abbrev pub IsOfStores : ToolFault → Type 0
IsOfStores (fault.Store p) = ⊤
IsOfStores (fault.Damaged p n) = ⊤
IsOfStores fault.Memory = ⊤
IsOfStores f = ⊥

-- a fault that comes where no file is read
abbrev pub IsUnread : ToolFault → Type 0
IsUnread fault.OutputFailed = ⊤
IsUnread (fault.Store p) = ⊤
IsUnread (fault.Damaged p n) = ⊤
IsUnread fault.Memory = ⊤
IsUnread f = ⊥

-- a run over generated rows ends with such a fault, if with any
abbrev pub EndsMade : Asked → Option ToolFault → Type 0
EndsMade (refused r) ended = ⊤
EndsMade (asks p q) ended = ⊤
EndsMade (makes p m) ended = IfSome ended (λ f. IsUnread f)

-- ---- where faults come from

-- the fault of words
abbrev pub ask_fault : AskError → ToolFault
ask_fault (ask_error.Refused r) = fault.Refused r
ask_fault ask_error.Memory = fault.Memory

-- the fault of reading
abbrev pub read_fault : CsvError → ToolFault
read_fault (csv_error.Missing file) = fault.Missing file
read_fault (csv_error.Header file) = fault.Header file
read_fault (csv_error.Width file row) = fault.Width file row
read_fault (csv_error.Field file row column) = fault.Field file row column
read_fault csv_error.Input = fault.InputFailed
read_fault csv_error.TooLarge = fault.TooLarge
read_fault csv_error.Memory = fault.Memory

-- the fault of a run that was begun: for a store, or for want of memory
abbrev pub run_fault : PipeError → ToolFault
run_fault (pipe_error.Store p) = fault.Store p
run_fault (pipe_error.Damaged p n) = fault.Damaged p n
run_fault e = fault.Memory

-- the fault of a run over files
abbrev pub file_fault : FileRunError → ToolFault
file_fault (run_error.Read e) = read_fault e
file_fault (run_error.Run e) = run_fault e

-- an error of a run that was begun: its limits, its query and its chunks were tested before
abbrev pub IsOfBegun : PipeError → Type 0
IsOfBegun (pipe_error.Store p) = ⊤
IsOfBegun (pipe_error.Damaged p n) = ⊤
IsOfBegun pipe_error.Memory = ⊤
IsOfBegun e = ⊥

-- an error that can come of a run over files
abbrev pub CanCome : FileRunError → Type 0
CanCome (run_error.Read e) = ⊤
CanCome (run_error.Run e) = IsOfBegun e
