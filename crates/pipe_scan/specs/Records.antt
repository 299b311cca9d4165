-- The records of a text from a place on, and fields that lie in the text.
use Rattle.std.specs.Prelude.{ℕ, ◌+◌, ◌-◌, ◌≤◌, List, [], ◌∷◌, take, drop, ⊤}
use Rattle.csv.specs.Reading.{default_config, records}

-- the fields of records
abbrev pub Records : Type 0
Records = List (List (List ℕ))

-- every record of a text from a place on
abbrev pub records_at : List ℕ → ℕ → Records
records_at text at = records default_config (drop at text)

-- the bytes of a text between two places
abbrev pub between : List ℕ → ℕ → ℕ → List ℕ
between text low high = take (high - low) (drop low text)

-- the fields of a text from a place on, each up to an end, and the next behind the byte there
abbrev pub cut : List ℕ → ℕ → List ℕ → List (List ℕ)
cut text start [] = []
cut text start (e ∷ es) = between text start e ∷ cut text (e + 1) es

-- such fields lie one behind the other, within n bytes
abbrev pub InOrder : ℕ → ℕ → List ℕ → Type 0
InOrder n start [] = ⊤
InOrder n start (e ∷ es) = (start ≤ e) × (e ≤ n) × InOrder n (e + 1) es
