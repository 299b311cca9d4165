-- What contracts see of an output in memory.
use Rattle.std.specs.Prelude.{ℕ, List, Option, Some}
use Rattle.pipe_columns.specs.Calls.{Calls}

-- the bytes that it was given, and the calls of write
pub record HeldBytes : Type 0 where
  pub bytes : List ℕ
  pub calls : Calls

-- its bytes, which are always told
abbrev pub held_bytes : HeldBytes → Option (List ℕ)
held_bytes s = Some s.bytes

-- how many calls failed
abbrev pub held_faults : HeldBytes → ℕ
held_faults s = s.calls.faults
