-- The statuses of a command on a summary: when each comes, and how it is told.
use Rattle.std.specs.Prelude.{◌≡◌, ◌⊎◌, ℕ, ◌==◌, Bool, true, false, List, [], ◌∷◌, Option, ⊤}
use Rattle.std.specs.List.{list_any}
use Rattle.pipe_io.specs.Files.{Files}
use Rattle.pipe_io.specs.Output.{WroteFront}
use Rattle.summary_words.specs.Asked.{adds, Asked, refused, shows}
use Rattle.tool_shell.specs.Reports.{Reports}
use Rattle.tool_shell.specs.declared.status.TheConstants.{DONE, INPUT_FAILED, INPUT_REFUSED, NO_MEMORY, OUTPUT_FAILED, QUERY_REFUSED, TOO_LARGE, WORDS_REFUSED}
use Rattle.summary_answer.specs.Faults.{fault_line, IsCaused, refusal_status, status_of}
use Rattle.summary_answer.specs.Opened.{Opened}
use Rattle.summary_answer.specs.declared.fault.SummaryFault.{SummaryFault}
use Rattle.summary_answer.specs.declared.status.TheConstants.{FRAME_DAMAGED, STORE_FAILED}

-- the statuses of what fails outside, and of want of memory
abbrev pub is_failure : ℕ → Bool
is_failure status =
    list_any (λ s. s == status)
    (INPUT_FAILED ∷ OUTPUT_FAILED ∷ STORE_FAILED ∷ NO_MEMORY ∷ [])

-- the statuses of words that are refused
abbrev pub is_refusal : ℕ → Bool
is_refusal status = list_any (λ s. s == status) (WORDS_REFUSED ∷ QUERY_REFUSED ∷ [])

-- the statuses of a run that writes nothing
abbrev pub is_unwritten : ℕ → Bool
is_unwritten status =
    list_any (λ s. s == status)
    (WORDS_REFUSED ∷ QUERY_REFUSED ∷ INPUT_REFUSED ∷ INPUT_FAILED ∷ TOO_LARGE ∷ STORE_FAILED
    ∷ FRAME_DAMAGED ∷ [])

-- the statuses with which a run ends
abbrev pub is_status : ℕ → Bool
is_status status =
    list_any (λ s. s == status)
    (DONE ∷ WORDS_REFUSED ∷ QUERY_REFUSED ∷ INPUT_REFUSED ∷ INPUT_FAILED ∷ OUTPUT_FAILED
    ∷ TOO_LARGE ∷ STORE_FAILED ∷ NO_MEMORY ∷ FRAME_DAMAGED ∷ [])

-- a fault of words, frames or files comes by its status, or a failure does
abbrev pub ComesFor : SummaryFault → ℕ → Type 0
ComesFor f status =
    is_failure (status_of f) ≡ false → (status ≡ status_of f) ⊎ (is_failure status ≡ true)

-- nothing has the cause of a fault of words, frames or files
abbrev pub HasNoFault : Asked → Opened → Option Files → Type 0
HasNoFault a o files =
    (f : SummaryFault) → is_failure (status_of f) ≡ false → IsCaused f a o files → ⊥

-- refused words end the run by their status, or memory runs out
abbrev pub IsRefusalOf : Asked → ℕ → Type 0
IsRefusalOf (refused r) status = (status ≡ refusal_status r) ⊎ (status ≡ NO_MEMORY)
IsRefusalOf (adds q names) status = ⊤
IsRefusalOf (shows q) status = ⊤

-- a fault that has its cause was reported by its status and its line
pub record ReportsFault
    (a : Asked) (o : Opened) (files : Option Files) (status before now : ℕ)
    (old new : Option (List ℕ)) : Type 0 where
  pub fault : SummaryFault
  pub cause : IsCaused fault a o files
  pub status_is : status_of fault ≡ status
  pub line : Reports (fault_line fault) before now old new

-- a front of the line of one fault was reported
pub record ReportsFront (old new : Option (List ℕ)) : Type 0 where
  pub fault : SummaryFault
  pub front : WroteFront old new (fault_line fault)
