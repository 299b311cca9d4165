-- Of the proofs alone: what calls at the places of a list from one on ask and leave.
use Rattle.std.specs.Prelude.{◌≡◌, ◌+◌, ◌<◌, ◌^◌, ℕ, List, length, get_or}

-- a call may be made at each place
abbrev pub AreAccepted : {T : Type 0} → (ℕ → T → Type 0) → ℕ → List T → Type 0
AreAccepted P base xs = (base + length xs < 2 ^ 64)
    × ((k : ℕ) (d : _) → k < length xs → P (base + k) (get_or xs k d))

-- each element is what such a call left
abbrev pub AreChanged : {T : Type 0} → (ℕ → T → T → Type 0) → ℕ → List T → List T → Type 0
AreChanged R base xs ys = (length ys ≡ length xs)
    × ((k : ℕ) (d : _) → k < length xs → R (base + k) (get_or xs k d) (get_or ys k d))
