-- The parts of a slice that fall in lists which come one after another.
use Rattle.std.specs.Prelude.{ℕ, ◌-◌, ◌==◌, min, List, [], ◌∷◌, ◌++◌, Option, Some, None, if◌then◌else◌}
use Rattle.pipe_columns.specs.Slice.{sliced}
use Rattle.pipe_groups.specs.Given.{slice_after}

-- what is dropped and kept of so many rows; none where none of them is kept
abbrev pub part_in : ℕ → Option (ℕ × ℕ) → Option (ℕ × ℕ)
part_in len None = Some (0, len)
part_in len (Some s) =
    if min s.1 (len - s.0) == 0 then None else Some (s.0, min s.1 (len - s.0))

-- the same of each list of rows, whose lengths are given: the slice goes over all of them
abbrev pub parts_of : List ℕ → Option (ℕ × ℕ) → List (Option (ℕ × ℕ))
parts_of [] slice = []
parts_of (len ∷ lens) slice = part_in len slice ∷ parts_of lens (slice_after len slice)

-- what a part keeps of a list: nothing where there is no part
abbrev pub kept_by : {X : Type 0} → Option (ℕ × ℕ) → List X → List X
kept_by None xs = []
kept_by (Some s) xs = sliced (Some s) xs

-- what parts keep of lists, one by one, joined
abbrev pub kept_of : {X : Type 0} → List (Option (ℕ × ℕ)) → List (List X) → List X
kept_of [] lists = []
kept_of (p ∷ parts) [] = []
kept_of (p ∷ parts) (xs ∷ lists) = kept_by p xs ++ kept_of parts lists
