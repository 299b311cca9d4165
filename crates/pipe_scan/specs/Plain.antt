-- Rows without a quote whose fields are as they are known to be.
use Rattle.std.specs.Prelude.{ℕ, zero, suc, ◌≡◌, ◌<◌, ℤ, Bool, true, false, List, [], ◌∷◌, length, Some, ⊤}
use Rattle.pipe_scan.specs.Numbers.{read_short_number}
use Rattle.pipe_scan.specs.Records.{cut}
use Rattle.pipe_scan.specs.Row.{TakesCut}

-- a field writes a short number
abbrev pub IsShort : List ℕ → Type 0
IsShort field = (n : ℤ) × (read_short_number field ≡ Some n)

-- a field is what it is to be: a short number, or anything
abbrev pub IsAsKnown : Bool → List ℕ → Type 0
IsAsKnown true field = IsShort field
IsAsKnown false field = ⊤

-- so is each of as many fields
abbrev pub AreAsKnown : List Bool → List (List ℕ) → Type 0
AreAsKnown [] fields = ⊤
AreAsKnown (number ∷ numbers) [] = ⊤
AreAsKnown (number ∷ numbers) (f ∷ fs) = IsAsKnown number f × AreAsKnown numbers fs

-- the first record from a place on lies in the text, and its fields are as known
pub record IsPlainRow
    (text : List ℕ) (at next start : ℕ) (numbers : List Bool) (ends : List ℕ) : Type 0 where
  pub row : TakesCut text at next start (length ends) ends
  pub some : 0 < length numbers
  pub width : length ends ≡ length numbers
  pub known : AreAsKnown numbers (cut text start ends)

-- so many plain rows lie one behind the other from a place on up to another
abbrev pub ArePlainRows : List ℕ → List Bool → ℕ → ℕ → ℕ → Type 0
ArePlainRows text numbers at next zero = at ≡ next
ArePlainRows text numbers at next (suc count) = (mid : ℕ) × (start : ℕ) × (ends : List ℕ)
    × ArePlainRows text numbers at mid count × IsPlainRow text mid next start numbers ends
