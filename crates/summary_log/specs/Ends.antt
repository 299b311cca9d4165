-- Where the entries of a log end.
use Rattle.std.specs.Prelude.{◌≡◌, ◌+◌, ◌-◌, ℕ, List, [], ◌∷◌, length, slice_index}
use Rattle.pipe_spill.specs.FileStore.{start_of}
use Rattle.summary_log.specs.Log.{AreFramesOf, entry}

-- where the entries of frames end, of which the first starts at a place
abbrev pub ends_from : ℕ → List (List ℕ) → List ℕ
ends_from start [] = []
ends_from start (frame ∷ frames) =
    (start + length (entry frame)) ∷ ends_from (start + length (entry frame)) frames

-- where the entries of frames end
abbrev pub ends_of : List (List ℕ) → List ℕ
ends_of frames = ends_from 0 frames

-- where the frame of a number starts: behind the 8 bytes of its length
abbrev pub frame_start : List ℕ → ℕ → ℕ
frame_start ends number = start_of ends number + 8

-- how many bytes it has
abbrev pub frame_size : List ℕ → ℕ → ℕ
frame_size ends number = slice_index ends number - frame_start ends number

-- the entries of the frames whose log bytes begin with end here
pub record AreEndsIn (bytes : List ℕ) (ends : List ℕ) : Type 0 where
  pub frames : List (List ℕ)
  pub read : AreFramesOf bytes frames
  pub ends_are : ends ≡ ends_of frames
