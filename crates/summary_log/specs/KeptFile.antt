-- A log in a file, as a store of frames.
use Rattle.std.specs.Prelude.{◌≡◌, false, true, Bool, IsTrue, ℕ, List, length, Option, Some, None, ⊤}
use Rattle.std.proofs.lemmas.Bool.{false≢true}
use Rattle.pipe_spill.specs.FileStore.{next_start}

-- where each entry ends, how many calls failed, and whether bytes are left behind the last entry that
-- couldn't be cut off
pub record LogEnds : Type 0 where
  pub ends : List ℕ
  pub faults : ℕ
  pub torn : Bool

-- the path of the file, and its frames
pub record KeptSeen : Type 0 where
  pub path : List ℕ
  pub frames : LogEnds

-- how many frames there are
abbrev pub held_of : LogEnds → ℕ
held_of s = length s.ends

-- how many calls failed
abbrev pub faults_of : LogEnds → ℕ
faults_of s = s.faults

-- told bytes that end with the last entry stay, unless bytes behind it couldn't be cut off
abbrev pub IsUndone : LogEnds → LogEnds → Option (List ℕ) → Option (List ℕ) → Type 0
IsUndone before now None new = ⊤
IsUndone before now (Some old) new =
    length old ≡ next_start before.ends → now.torn ≡ false → new ≡ Some old

-- a sure store has never failed: none in a file is sure
pub sure_never_failed : (s : KeptSeen) → IsTrue false → faults_of s.frames ≡ 0
sure_never_failed s sure = absurd (false≢true sure)
