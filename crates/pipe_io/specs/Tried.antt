-- Which files were tried: to begin a file is to try its name.
use Rattle.std.specs.Prelude.{◌≡◌, ℕ, List, ◌++◌}

-- the first of some names were tried, in their order, and those that are left were not
pub record AreTried (before now names left : List (List ℕ)) : Type 0 where
  pub some : List (List ℕ)
  pub more : now ≡ before ++ some
  pub front : names ≡ some ++ left

-- the first of some names were tried, in their order
abbrev pub TriedFront : List (List ℕ) → List (List ℕ) → List (List ℕ) → Type 0
TriedFront before now names = (left : List (List ℕ)) × AreTried before now names left
