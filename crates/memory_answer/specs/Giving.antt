-- What a call gives into the room of its caller.
use Rattle.std.specs.Prelude.{◌≡◌, ◌⊎◌, ◌≤◌, ◌<◌, ℕ, List, ◌++◌, length, drop, Result, Ok, Err}
use Rattle.tool_shell.specs.Reports.{memory_line}
use Rattle.tool_shell.specs.declared.status.TheConstants.{DONE, NO_MEMORY}
use Rattle.memory_answer.specs.Faults.{fault_line, status_of}
use Rattle.memory_answer.specs.declared.fault.Fault.{Fault}
use Rattle.memory_answer.specs.declared.put.TheConstants.{ROOM_SHORT}

-- the status of a result
abbrev pub told_status : Result (List ℕ) Fault → ℕ
told_status (Ok text) = DONE
told_status (Err f) = status_of f

-- its bytes: a text, or the line of a fault
abbrev pub told_bytes : Result (List ℕ) Fault → List ℕ
told_bytes (Ok text) = text
told_bytes (Err f) = fault_line f

-- bytes of a status were put into room, and their number was told: where there is room for them, they
-- stand at its front, with the rest as before; where there is less, nothing is written, and the status
-- says so
pub record IsPut (status : ℕ) (bytes old new : List ℕ) (need answered : ℕ) : Type 0 where
  pub need_is : need ≡ length bytes
  pub fits : length bytes ≤ length old → (answered ≡ status) × (new ≡ bytes ++ drop (length bytes) old)
  pub short : length old < length bytes → (answered ≡ ROOM_SHORT) × (new ≡ old)

-- a result was given, or it is told that memory ran out
abbrev pub IsGiven : Result (List ℕ) Fault → List ℕ → List ℕ → ℕ → ℕ → Type 0
IsGiven r old new need answered =
    IsPut (told_status r) (told_bytes r) old new need answered
    ⊎ IsPut NO_MEMORY memory_line old new need answered
