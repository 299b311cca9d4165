-- Records that are gone over, of which only the number of their fields is looked at.
use Rattle.std.specs.Prelude.{ℕ, ◌≡◌, ◌≢◌, ◌<◌, ◌≤◌, List, [], ◌∷◌, ◌++◌, length, ⊤}
use Rattle.std.specs.List.{All}
use Rattle.pipe_scan.specs.Records.{Records, records_at}
use Rattle.pipe_scan.specs.declared.skip.Skip.{Skip}
use Rattle.pipe_scan.specs.declared.skip.Skip.TheVariants as skip

-- so many records of a width stand in a text between two places, before its other records
pub record Skips (text : List ℕ) (at next width count : ℕ) : Type 0 where
  pub front : Records
  pub records : records_at text at ≡ front ++ records_at text next
  pub as_many : length front ≡ count
  pub as_wide : All (λ fields. length fields ≡ width) front
  pub order : at ≤ next
  pub within : next ≤ length text

-- the first record from a place on has another number of fields
abbrev pub HasOtherWidth : List ℕ → ℕ → ℕ → Type 0
HasOtherWidth text at width =
    (fields : List (List ℕ)) × (rest : Records)
    × (records_at text at ≡ fields ∷ rest) × (length fields ≢ width)

-- how many records were gone over
abbrev pub count_of : ℕ → Skip → ℕ
count_of most skip.Done = most
count_of most (skip.End count) = count
count_of most (skip.OtherWidth count) = count

-- why there were no more of them
abbrev pub StopsFor : List ℕ → ℕ → ℕ → ℕ → Skip → Type 0
StopsFor text next width most skip.Done = ⊤
StopsFor text next width most (skip.End count) = (records_at text next ≡ []) × (count < most)
StopsFor text next width most (skip.OtherWidth count) =
    HasOtherWidth text next width × (count < most)
