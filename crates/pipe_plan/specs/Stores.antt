-- Stores as a run finds them.
use Rattle.std.specs.Prelude.{ℕ, Bool, List, map, Option}
use Rattle.pipe_plan.specs.Run.{StoreSeen}

-- a store as it is seen, by what is known of it
abbrev pub store_seen :
    {S : Type 0} → (S → ℕ) → (S → Option (List (List ℕ))) → (S → ℕ) → (S → Bool)
    → (S → Option (List ℕ)) → S → StoreSeen
store_seen held told faults sure path s =
    record { held = held s; told = told s; faults = faults s; sure = sure s; path = path s }

-- stores as they are seen, in order
abbrev pub stores_seen :
    {S : Type 0} → (S → ℕ) → (S → Option (List (List ℕ))) → (S → ℕ) → (S → Bool)
    → (S → Option (List ℕ)) → List S → List StoreSeen
stores_seen held told faults sure path stores =
    map (λ s. record { held = held s; told = told s; faults = faults s; sure = sure s; path = path s }) stores
