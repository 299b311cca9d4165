-- A store in memory: its frames, and its calls.
use Rattle.std.specs.Prelude.{◌≡◌, ℕ, List, Bool, ◌&&◌, ◌==◌, IsTrue, length, Option, Some}
use Rattle.std.proofs.lemmas.Bool.{and_parts, eqb-true}
use Rattle.pipe_columns.specs.Calls.{Calls}

-- the frames in the order of their puts, and the calls of put and get, numbered together
pub record MemoryFrames : Type 0 where
  pub frames : List (List ℕ)
  pub calls : Calls

-- the frames are always told
abbrev pub told_of : MemoryFrames → Option (List (List ℕ))
told_of s = Some s.frames

-- how many frames there are
abbrev pub held_of : MemoryFrames → ℕ
held_of s = length s.frames

-- how many calls failed
abbrev pub faults_of : MemoryFrames → ℕ
faults_of s = s.calls.faults

-- no call is listed, and so none failed
abbrev pub is_sure : MemoryFrames → Bool
is_sure s = (length s.calls.failing == 0) && (s.calls.faults == 0)

-- a sure store has never failed
pub sure_never_failed : (s : MemoryFrames) → IsTrue (is_sure s) → faults_of s ≡ 0
sure_never_failed s sure = eqb-true s.calls.faults 0
    (and_parts (length s.calls.failing == 0) (s.calls.faults == 0) sure).1
