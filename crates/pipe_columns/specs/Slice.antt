-- A slice: how many to drop, and how many of the rest to keep at most.
use Rattle.std.specs.Prelude.{ℕ, List, take, drop, Option, Some, None}

-- what a slice keeps of a list; without a slice all of it
abbrev pub sliced : {X : Type 0} → Option (ℕ × ℕ) → List X → List X
sliced None xs = xs
sliced (Some s) xs = take s.1 (drop s.0 xs)
