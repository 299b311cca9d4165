-- Where the stores of a run lie: in memory, or in the files of a folder.
use Rattle.std.specs.Prelude.{ℕ, zero, suc, List, [], ◌∷◌, ◌++◌, Option, None, Some}
use Rattle.pipe_spill.specs.FileStore.{path_in}

-- the path of a partition's store: that of its file in a folder, and none where no folder is named
abbrev pub store_path : Option (List ℕ) → ℕ → Option (List ℕ)
store_path None partition = None
store_path (Some dir) partition = Some (path_in dir partition)

-- the paths of the stores of so many partitions, in order
abbrev pub store_paths : Option (List ℕ) → ℕ → List (Option (List ℕ))
store_paths folder zero = []
store_paths folder (suc partition) =
    store_paths folder partition ++ store_path folder partition ∷ []
