-- Of the proofs alone: eight digits at once.
use lib.Lanes.{chunk}
use Rattle.std.specs.Prelude.{ℕ, ◌≡◌, ◌+◌, ◌*◌, ◌%◌, ◌≤◌, nat_le, List, [], ◌∷◌, if◌then◌else◌}

-- bytes from the place i on less the code of 0, of which those before `skipped` are made 0
abbrev pub used_from : ℕ → ℕ → List ℕ → List ℕ
used_from skipped i [] = []
used_from skipped i (c ∷ cs) =
    (if nat_le skipped i then (c + 208) % 256 else 0) ∷ used_from skipped (i + 1) cs

-- eight bytes so
abbrev pub used_digits : List ℕ → ℕ → ℕ → List ℕ
used_digits text at skipped = used_from skipped 0 (chunk at 8 text)

-- digits, the first of which counts most
abbrev pub weighed : List ℕ → ℕ
weighed (a ∷ b ∷ c ∷ d ∷ e ∷ f ∷ g ∷ h ∷ []) =
    a * 10000000 + b * 1000000 + c * 100000 + d * 10000 + e * 1000 + f * 100 + g * 10 + h
weighed other = 0

-- each is at most 9
abbrev pub AreDigits : List ℕ → Type 0
AreDigits [] = Unit {0}
AreDigits (d ∷ ds) = (d ≤ 9) × AreDigits ds

-- the number of eight digits
pub record IsEight (ds : List ℕ) (n : ℕ) : Type 0 where
  pub digits : AreDigits ds
  pub value : n ≡ weighed ds
