-- The statuses of a command on saved states: when each comes, and how it is told.
use Rattle.std.specs.Prelude.{◌≡◌, ◌⊎◌, ℕ, ◌==◌, Bool, true, false, List, [], ◌∷◌, Option, ⊤}
use Rattle.std.specs.List.{list_any}
use Rattle.pipe_io.specs.Files.{Files}
use Rattle.pipe_io.specs.Output.{WroteFront}
use Rattle.rollup_words.specs.Asked.{Asked, refused, rolls, saves}
use Rattle.tool_shell.specs.Reports.{Reports}
use Rattle.tool_shell.specs.declared.status.TheConstants.{DONE, INPUT_FAILED, INPUT_REFUSED, NO_MEMORY, OUTPUT_FAILED, QUERY_REFUSED, TOO_LARGE, WORDS_REFUSED}
use Rattle.rollup_answer.specs.Faults.{fault_line, IsCaused, refusal_status, status_of}
use Rattle.rollup_answer.specs.declared.fault.RollupFault.{RollupFault}
use Rattle.rollup_answer.specs.declared.status.TheConstants.{KEYS_REFUSED, NOT_A_STATE, OVERLAP}

-- the statuses of what fails outside, and of want of memory
abbrev pub is_failure : ℕ → Bool
is_failure status =
    list_any (λ s. s == status) (INPUT_FAILED ∷ OUTPUT_FAILED ∷ NO_MEMORY ∷ [])

-- the statuses of words that are refused
abbrev pub is_refusal : ℕ → Bool
is_refusal status = list_any (λ s. s == status) (WORDS_REFUSED ∷ QUERY_REFUSED ∷ KEYS_REFUSED ∷ [])

-- the statuses of a run that writes nothing
abbrev pub is_unwritten : ℕ → Bool
is_unwritten status =
    list_any (λ s. s == status)
    (WORDS_REFUSED ∷ QUERY_REFUSED ∷ KEYS_REFUSED ∷ INPUT_REFUSED ∷ INPUT_FAILED ∷ TOO_LARGE
    ∷ NOT_A_STATE ∷ OVERLAP ∷ [])

-- the statuses with which a run ends
abbrev pub is_status : ℕ → Bool
is_status status =
    list_any (λ s. s == status)
    (DONE ∷ WORDS_REFUSED ∷ QUERY_REFUSED ∷ INPUT_REFUSED ∷ INPUT_FAILED ∷ OUTPUT_FAILED
    ∷ TOO_LARGE ∷ NO_MEMORY ∷ NOT_A_STATE ∷ OVERLAP ∷ KEYS_REFUSED ∷ [])

-- a fault of words or files comes by its status, or a failure does
abbrev pub ComesFor : RollupFault → ℕ → Type 0
ComesFor f status =
    is_failure (status_of f) ≡ false → (status ≡ status_of f) ⊎ (is_failure status ≡ true)

-- nothing has the cause of a fault of words or files
abbrev pub HasNoFault : Asked → Option Files → Type 0
HasNoFault a told =
    (f : RollupFault) → is_failure (status_of f) ≡ false → IsCaused f a told → ⊥

-- refused words end the run by their status, or memory runs out
abbrev pub IsRefusalOf : Asked → ℕ → Type 0
IsRefusalOf (refused r) status = (status ≡ refusal_status r) ⊎ (status ≡ NO_MEMORY)
IsRefusalOf (saves q first names) status = ⊤
IsRefusalOf (rolls q keep names) status = ⊤

-- a fault that has its cause was reported by its status and its line
pub record ReportsFault
    (a : Asked) (told : Option Files) (status before now : ℕ) (old new : Option (List ℕ))
    : Type 0 where
  pub fault : RollupFault
  pub cause : IsCaused fault a told
  pub status_is : status_of fault ≡ status
  pub line : Reports (fault_line fault) before now old new

-- a front of the line of one fault was reported
pub record ReportsFront (old new : Option (List ℕ)) : Type 0 where
  pub fault : RollupFault
  pub front : WroteFront old new (fault_line fault)
