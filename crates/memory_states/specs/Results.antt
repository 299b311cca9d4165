-- What a call on saved states comes to, and what it gives into the room of its caller.
use Rattle.std.specs.Prelude.{◌≡◌, ◌⊎◌, ℕ, false, List, Option, Some, Result, Ok, Err}
use Rattle.memory_answer.specs.Giving.{IsPut}
use Rattle.pipe_io.specs.Files.{Files}
use Rattle.rollup_answer.specs.Faults.{fault_line, IsCaused, status_of}
use Rattle.rollup_answer.specs.Headline.{IsOwed}
use Rattle.rollup_answer.specs.Status.{is_failure}
use Rattle.rollup_answer.specs.declared.fault.RollupFault.{RollupFault}
use Rattle.rollup_words.specs.Asked.{Asked}
use Rattle.tool_shell.specs.Reports.{memory_line}
use Rattle.tool_shell.specs.declared.status.TheConstants.{DONE, NO_MEMORY}

-- what is asked of files comes to the text that the command on them owes, or to a fault that has
-- its cause; nothing fails
abbrev pub IsResult : Asked → Files → Result (List ℕ) RollupFault → Type 0
IsResult a files (Ok text) = IsOwed a (Some files) text
IsResult a files (Err f) = (is_failure (status_of f) ≡ false) × IsCaused f a (Some files)

-- the status of a result
abbrev pub told_status : Result (List ℕ) RollupFault → ℕ
told_status (Ok text) = DONE
told_status (Err f) = status_of f

-- its bytes: a text, or the line of a fault
abbrev pub told_bytes : Result (List ℕ) RollupFault → List ℕ
told_bytes (Ok text) = text
told_bytes (Err f) = fault_line f

-- a result of what is asked of files
pub record ResultOf (a : Asked) (files : Files) : Type 0 where
  pub result : Result (List ℕ) RollupFault
  pub is : IsResult a files result

-- a result was given into room, or it is told that memory ran out
abbrev pub IsResultGiven : Asked → Files → List ℕ → List ℕ → ℕ → ℕ → Type 0
IsResultGiven a files old new need answered =
    ((r : ResultOf a files) × IsPut (told_status r.result) (told_bytes r.result) old new need answered)
    ⊎ IsPut NO_MEMORY memory_line old new need answered

-- a fault is that of a result, or tells that memory ran out
abbrev pub IsFaultOf : RollupFault → Asked → Files → Type 0
IsFaultOf f a files = IsResult a files (Err f) ⊎ (status_of f ≡ NO_MEMORY)
