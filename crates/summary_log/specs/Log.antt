-- A log: frames one after another, each behind its length.
use Rattle.std.specs.Prelude.{◌≡◌, ◌^◌, ◌<◌, ℕ, List, [], ◌∷◌, ◌++◌, length}
use Rattle.std.specs.Int.{bytes_high_first}

-- an entry: the length of a frame as 8 bytes, most significant first, and the frame
abbrev pub entry : List ℕ → List ℕ
entry frame = bytes_high_first 8 (length frame) ++ frame

-- the entries of frames, one after another
abbrev pub log : List (List ℕ) → List ℕ
log [] = []
log (frame ∷ frames) = entry frame ++ log frames

-- bytes begin with no entry, however they go on; a length that 8 bytes can't hold is none
abbrev pub BeginsNone : List ℕ → Type 0
BeginsNone bytes =
    (frame rest : List ℕ) → length frame < 2 ^ 64 → bytes ≡ entry frame ++ rest → ⊥

-- the frames whose log bytes begin with: behind it they begin with no further entry
pub record AreFramesOf (bytes : List ℕ) (frames : List (List ℕ)) : Type 0 where
  pub rest : List ℕ
  pub whole : bytes ≡ log frames ++ rest
  pub over : BeginsNone rest
