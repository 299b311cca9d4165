-- What contracts see of texts in memory that are read as files.
use Rattle.std.specs.Prelude.{ℕ, Bool, List, [], ◌∷◌, take, drop, Option, Some, is_some}
use Rattle.pipe_io.specs.Files.{Files}

-- the files, what is left of the one that is begun, and the names that were tried
pub record HeldText : Type 0 where
  pub files : Files
  pub left : Option (List ℕ)
  pub tried : List (List ℕ)

-- one file
abbrev pub one_file : List ℕ → List ℕ → Files
one_file name text = (name, text) ∷ []

-- files of some names, which are the pieces of a text that have some lengths, one behind another
abbrev pub piece_files : List (List ℕ) → List ℕ → List ℕ → Files
piece_files [] lengths text = []
piece_files (name ∷ names) [] text = []
piece_files (name ∷ names) (n ∷ lengths) text =
    (name, take n text) ∷ piece_files names lengths (drop n text)

-- the files, which are always told
abbrev pub held_files : HeldText → Option Files
held_files s = Some s.files

-- what is left of the one that is begun
abbrev pub held_rest : HeldText → Option (List ℕ)
held_rest s = s.left

-- whether one is begun
abbrev pub is_begun : HeldText → Bool
is_begun s = is_some s.left

-- they never fail
abbrev pub no_faults : HeldText → ℕ
no_faults s = 0

-- the names that were tried
abbrev pub tried_of : HeldText → List (List ℕ)
tried_of s = s.tried
