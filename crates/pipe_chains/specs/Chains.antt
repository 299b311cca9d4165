-- Entries in chains by a lead.
use Rattle.std.specs.Prelude.{ℕ, suc, Bool, ◌==◌, List, [], ◌∷◌, Option, Some, None, if◌then◌else◌}

-- the marks of the entries and their leads, in the order in which they came, and how many more there
-- is memory for
pub record Marked : Type 0 where
  pub marks : List ℕ
  pub leads : List ℕ
  pub room : ℕ

-- an index in the rest of a list, or that of its head where it passes
abbrev pub later : Option ℕ → Bool → Option ℕ
later (Some i) passes = Some (suc i)
later None passes = if passes then Some 0 else None

-- the index of the last item that passes
abbrev pub last_index : {X : Type 0} → (X → Bool) → List X → Option ℕ
last_index p [] = None
last_index p (x ∷ xs) = later (last_index p xs) (p x)

-- the index of the last entry of a lead
abbrev pub last_of : ℕ → List ℕ → Option ℕ
last_of lead leads = last_index (λ l. l == lead) leads
