-- What the words of a command say, before a query is looked at.
use Rattle.std.specs.Prelude.{ℕ, List, [], ◌∷◌, codes, bytes_eq, Option, Some, None, if◌then◌else◌}

-- what words of one of the two shapes say
pub data Said : Type 0 where
  -- the word of a query, and the names of the files to be added
  add : List ℕ → List (List ℕ) → Said
  -- the word of a query
  show : List ℕ → Said

-- what is said by a first word, that of a query, and the names of files: files are added, and none
-- stand behind the query that is shown
abbrev pub said_by : List ℕ → List ℕ → List (List ℕ) → Option Said
said_by mode query [] = if bytes_eq mode (codes "show") then Some (show query) else None
said_by mode query (file ∷ files) =
    if bytes_eq mode (codes "add") then Some (add query (file ∷ files)) else None

-- what words say: there are two at least
abbrev pub said : List (List ℕ) → Option Said
said [] = None
said (mode ∷ []) = None
said (mode ∷ query ∷ files) = said_by mode query files
