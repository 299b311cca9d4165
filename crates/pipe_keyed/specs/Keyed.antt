-- Groups that are found by their keys.
use Rattle.std.specs.Prelude.{◌≡◌, ◌<◌, ℕ, false, length, List, Option, Some, None}
use Rattle.pipe_groups.specs.Groups.{Group, group_of, is_covered}

-- the group at an index has a key
abbrev pub IsAt : List Group → List ℕ → ℕ → Type 0
IsAt gs key i = (i < length gs) × ((group_of gs i).key ≡ key)

-- what a look-up for a key gives: the index of its group, or that there is none
abbrev pub IsFound : List Group → List ℕ → Option ℕ → Type 0
IsFound gs key None = is_covered key gs ≡ false
IsFound gs key (Some i) = IsAt gs key i
