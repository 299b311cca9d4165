-- The statuses of a run: when each is due, and how it is told.
use Rattle.std.specs.Prelude.{◌≡◌, ◌⊎◌, ℕ, ◌==◌, Bool, true, List, [], ◌∷◌, Option, Some, None, IfSome, ⊤}
use Rattle.std.specs.List.{list_any}
use Rattle.pipe_io.specs.Files.{Files}
use Rattle.pipe_io.specs.Output.{WroteFront}
use Rattle.pipe_plan.specs.Run.{StoreSeen}
use Rattle.pipe_source.specs.CsvChunks.{misfit, Stop, too_large}
use Rattle.tool_shell.specs.Reports.{Reports}
use Rattle.tool_shell.specs.declared.status.TheConstants.{DAMAGED, DONE, INPUT_FAILED, INPUT_REFUSED, NO_MEMORY, OUTPUT_FAILED, QUERY_REFUSED, STORE_FAILED, TOO_LARGE, WORDS_REFUSED}
use Rattle.tool_words.specs.Asked.{Asked, asks, makes, refused}
use Rattle.tool_answer.specs.declared.fault.ToolFault.{ToolFault}
use Rattle.tool_answer.specs.Asking.{has_folder, stop_due}
use Rattle.tool_answer.specs.Ended.{HasFailed, HasUntold}
use Rattle.tool_answer.specs.Faults.{fault_line, IsCaused, refusal_status, status_of}

-- the status of an early end of reading
abbrev pub stop_status : Option Stop → ℕ
stop_status None = DONE
stop_status (Some (misfit m)) = INPUT_REFUSED
stop_status (Some too_large) = TOO_LARGE

-- the status that is owed over files, where nothing fails
abbrev pub due_status : Asked → Files → ℕ
due_status (refused r) files = refusal_status r
due_status (asks p q) files = stop_status (stop_due (asks p q) files)
due_status (makes p m) files = DONE

-- where the input tells its files, this status is due
abbrev pub IsDue : ℕ → Asked → Option Files → Type 0
IsDue status a told = IfSome told (λ files. due_status a files ≡ status)

-- the statuses of what fails outside, and of want of memory
abbrev pub is_failure : ℕ → Bool
is_failure status =
    list_any (λ s. s == status)
    (INPUT_FAILED ∷ OUTPUT_FAILED ∷ STORE_FAILED ∷ DAMAGED ∷ NO_MEMORY ∷ [])

-- where the input tells its files, a status is the one due, or that of a failure
abbrev pub EndsAsDue : ℕ → Asked → Option Files → Type 0
EndsAsDue status a told =
    IfSome told (λ files. (status ≡ due_status a files) ⊎ (is_failure status ≡ true))

-- the statuses with which a run ends
abbrev pub is_status : ℕ → Bool
is_status status =
    list_any (λ s. s == status)
    (DONE ∷ WORDS_REFUSED ∷ QUERY_REFUSED ∷ INPUT_REFUSED ∷ INPUT_FAILED ∷ OUTPUT_FAILED
    ∷ TOO_LARGE ∷ STORE_FAILED ∷ DAMAGED ∷ NO_MEMORY ∷ [])

-- the statuses of words that are refused
abbrev pub is_refusal : ℕ → Bool
is_refusal status = list_any (λ s. s == status) (WORDS_REFUSED ∷ QUERY_REFUSED ∷ [])

-- the statuses of a run that stopped
abbrev pub is_stopped : ℕ → Bool
is_stopped status =
    list_any (λ s. s == status)
    (INPUT_REFUSED ∷ INPUT_FAILED ∷ TOO_LARGE ∷ STORE_FAILED ∷ DAMAGED ∷ [])

-- the statuses of reading that ends early
abbrev pub is_read_end : ℕ → Bool
is_read_end status =
    list_any (λ s. s == status) (INPUT_REFUSED ∷ INPUT_FAILED ∷ TOO_LARGE ∷ [])

-- the statuses of a run that was answered
abbrev pub is_answer : ℕ → Bool
is_answer status = list_any (λ s. s == status) (DONE ∷ OUTPUT_FAILED ∷ [])

-- the status of refused words ends the run, or memory runs out
abbrev pub IsRefusal : Asked → ℕ → Type 0
IsRefusal (refused r) status = (status ≡ refusal_status r) ⊎ (status ≡ NO_MEMORY)
IsRefusal (asks p q) status = ⊤
IsRefusal (makes p m) status = ⊤

-- the statuses of a run that reads no file
abbrev pub is_unread : ℕ → Bool
is_unread status =
    list_any (λ s. s == status) (DONE ∷ OUTPUT_FAILED ∷ STORE_FAILED ∷ DAMAGED ∷ NO_MEMORY ∷ [])

-- a run over generated rows ends with none of the statuses of the input
abbrev pub EndsUnread : Asked → ℕ → Type 0
EndsUnread (refused r) status = ⊤
EndsUnread (asks p q) status = ⊤
EndsUnread (makes p m) status = is_unread status ≡ true

-- a fault that has its cause was reported by its status and its line
pub record ReportsFault
    (a : Asked) (told : Option Files) (stores : List StoreSeen) (status before now : ℕ)
    (old new : Option (List ℕ)) : Type 0 where
  pub fault : ToolFault
  pub cause : IsCaused fault a told stores
  pub status_is : status_of fault ≡ status
  pub line : Reports (fault_line fault) before now old new

-- a front of the line of one fault was reported
pub record ReportsFront (old new : Option (List ℕ)) : Type 0 where
  pub fault : ToolFault
  pub front : WroteFront old new (fault_line fault)

-- frames are spilled to a folder, and a store failed
pub record StoreFailed (a : Asked) (stores : List StoreSeen) : Type 0 where
  pub folder : has_folder a ≡ true
  pub partition : ℕ
  pub failed : HasFailed stores partition

-- frames are spilled to a folder, and a store that doesn't tell has a frame that is told as damaged
pub record FrameDamaged (a : Asked) (stores : List StoreSeen) : Type 0 where
  pub folder : has_folder a ≡ true
  pub partition : ℕ
  pub number : ℕ
  pub untold : HasUntold stores partition number
