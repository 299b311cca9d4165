-- A store in a file: the file's path, where its frames end, and its faults.
use Rattle.std.specs.Prelude.{◌≡◌, false, IsTrue, ℕ, ◌+◌, ◌-◌, ◌==◌, if◌then◌else◌, List, [], ◌∷◌, ◌++◌, codes, length, slice_index}
use Rattle.std.specs.Fmt.{decimal}
use Rattle.std.proofs.lemmas.Bool.{false≢true}

-- where each frame ends in the file, and how many calls failed
pub record FileEnds : Type 0 where
  pub ends : List ℕ
  pub faults : ℕ

-- a store in a file: the path of the file, and its frames
pub record FileStoreSeen : Type 0 where
  pub path : List ℕ
  pub frames : FileEnds

-- the path of a partition's file in a folder; a folder without a name has no file, so no path
abbrev pub path_in : List ℕ → ℕ → List ℕ
path_in [] partition = []
path_in (b ∷ name) partition =
    b ∷ name ++ codes "/partition-" ++ decimal partition ++ codes ".spill"

-- how many frames there are
abbrev pub held_of : FileEnds → ℕ
held_of s = length s.ends

-- how many calls failed
abbrev pub faults_of : FileEnds → ℕ
faults_of s = s.faults

-- the frame of a number starts where the one before it ends
abbrev pub start_of : List ℕ → ℕ → ℕ
start_of ends number = if number == 0 then 0 else slice_index ends (number - 1)

-- a new frame starts where the last one ends
abbrev pub next_start : List ℕ → ℕ
next_start ends = start_of ends (length ends)

-- how many bytes the frame of a number has
abbrev pub size_of : List ℕ → ℕ → ℕ
size_of ends number = slice_index ends number - start_of ends number

-- one more frame of so many bytes
abbrev pub with_end : List ℕ → ℕ → List ℕ
with_end ends size = ends ++ (next_start ends + size) ∷ []

-- a sure store has never failed: none in a file is sure
pub sure_never_failed : (s : FileStoreSeen) → IsTrue false → faults_of s.frames ≡ 0
sure_never_failed s sure = absurd (false≢true sure)
