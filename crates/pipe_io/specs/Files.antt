-- Named files.
use Rattle.std.specs.Prelude.{◌≡◌, ◌<◌, ℕ, List, length, ◌++◌, Option, Some, None, ⊤, option_map}
use Rattle.std.specs.List.{find}
use Rattle.std.specs.Str.{bytes_eq}

-- names and bytes
abbrev pub Files : Type 0
Files = List (List ℕ × List ℕ)

-- the bytes of the first file of a name
abbrev pub file_of : Files → List ℕ → Option (List ℕ)
file_of files name = option_map (λ f. f.1) (find (λ f. bytes_eq f.0 name) files)

-- where files are told, none has the name
abbrev pub HasNoFile : Option Files → List ℕ → Type 0
HasNoFile None name = ⊤
HasNoFile (Some files) name = file_of files name ≡ None

-- where files are told, these bytes of the file were read, and what is left comes after them
abbrev pub IsRead : Option Files → List ℕ → Option (List ℕ) → List ℕ → Type 0
IsRead None name left read = ⊤
IsRead (Some files) name left read =
    (rest : List ℕ) × (left ≡ Some rest) × (file_of files name ≡ Some (read ++ rest))

-- where files are told, the file of the name has exactly these bytes
abbrev pub IsWhole : Option Files → List ℕ → List ℕ → Type 0
IsWhole None name bytes = ⊤
IsWhole (Some files) name bytes = file_of files name ≡ Some bytes

-- where files are told, the file of the name has more bytes than this
abbrev pub IsLarger : Option Files → List ℕ → ℕ → Type 0
IsLarger None name most = ⊤
IsLarger (Some files) name most =
    (bytes : List ℕ) × (file_of files name ≡ Some bytes) × (most < length bytes)
