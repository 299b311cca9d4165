-- A list cut into pieces.
use Rattle.std.specs.Prelude.{ℕ, zero, suc, List, [], ◌∷◌, length, take, drop}

-- a list cut into pieces of n, the last perhaps shorter, of which there are at most `most`
abbrev pub pieces_within : {A : Type 0} → ℕ → ℕ → List A → List (List A)
pieces_within zero n xs = []
pieces_within (suc most) n [] = []
pieces_within (suc most) n (x ∷ xs) = take n (x ∷ xs) ∷ pieces_within most n (drop n (x ∷ xs))

-- a list cut into pieces of n, the last perhaps shorter, and none empty
abbrev pub pieces : {A : Type 0} → ℕ → List A → List (List A)
pieces n xs = pieces_within (length xs) n xs
