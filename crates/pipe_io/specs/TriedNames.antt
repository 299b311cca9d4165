-- Of the proofs alone: names of which the code holds nothing.
use Rattle.std.specs.Prelude.{ℕ, List, [], ◌∷◌, ◌++◌}
use Rattle.pipe_io.specs.declared.tried_name.TriedName.{TriedName, None, Behind'}

-- the names in their order
abbrev pub names_of : TriedName → List (List ℕ)
names_of None = []
names_of (Behind' marker before name) = names_of before ++ name.value ∷ []
