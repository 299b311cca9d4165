-- What becomes of the bytes of a file, where it tells them.
use Rattle.std.specs.Prelude.{◌≡◌, ◌≤◌, ◌+◌, ℕ, List, ◌++◌, length, take, drop, Option, Some, None, ⊤}

-- so many bytes from a place on
abbrev pub bytes_at : ℕ → ℕ → List ℕ → List ℕ
bytes_at at count bytes = take count (drop at bytes)

-- bytes that are written over from a place on
abbrev pub written_at : ℕ → List ℕ → List ℕ → List ℕ
written_at at bytes old = take at old ++ bytes ++ drop (at + length bytes) old

-- told bytes that reach to a place were written over from there on
abbrev pub IsWrittenAt : ℕ → List ℕ → Option (List ℕ) → Option (List ℕ) → Type 0
IsWrittenAt at bytes None new = ⊤
IsWrittenAt at bytes (Some old) new = at ≤ length old → new ≡ Some (written_at at bytes old)

-- told bytes that reach to a place are as before up to there
abbrev pub HasFront : ℕ → Option (List ℕ) → Option (List ℕ) → Type 0
HasFront at None new = ⊤
HasFront at (Some old) new =
    at ≤ length old → (now : List ℕ) × (new ≡ Some now) × (take at now ≡ take at old)

-- told bytes that reach to a place were cut off there
abbrev pub IsCutAt : ℕ → Option (List ℕ) → Option (List ℕ) → Type 0
IsCutAt at None new = ⊤
IsCutAt at (Some old) new = at ≤ length old → new ≡ Some (take at old)
