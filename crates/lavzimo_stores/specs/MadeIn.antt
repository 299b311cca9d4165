-- Of the proofs alone: the folders of stores that were made.
use Rattle.std.specs.Prelude.{ℕ, List, [], ◌∷◌, ◌++◌, Option, None, Some}
use Rattle.lavzimo_stores.specs.declared.made_in.MadeIn.{MadeIn, Nothing, Memory', Folder'}

-- the folder of each store, in order; none of one in memory
abbrev pub folders_of : MadeIn → List (Option (List ℕ))
folders_of Nothing = []
folders_of (Memory' marker before) = folders_of before ++ None ∷ []
folders_of (Folder' marker before dir) = folders_of before ++ Some dir.value ∷ []
