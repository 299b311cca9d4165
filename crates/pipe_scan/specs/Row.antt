-- A record of a text, and where the next one begins.
use Rattle.std.specs.Prelude.{ℕ, ◌≡◌, ◌<◌, ◌≤◌, List, [], ◌∷◌, ◌++◌, length, take, Option, Some, None}
use Rattle.csv.specs.Reading.{default_config, records}
use Rattle.pipe_scan.specs.Records.{InOrder, Records, between, cut, records_at}
use Rattle.pipe_scan.specs.declared.row.Row.{Row}
use Rattle.pipe_scan.specs.declared.row.Row.TheVariants as row

-- the records from a place on are one of these fields, and those from a later place on
abbrev pub Takes : List ℕ → ℕ → ℕ → List (List ℕ) → Type 0
Takes text at next fields =
    (records_at text at ≡ fields ∷ records_at text next) × (at < next) × (next ≤ length text)

-- a record of these fields and where the next one begins, or no record
abbrev pub TakesOne : List ℕ → ℕ → List (List ℕ) → Option ℕ → Type 0
TakesOne text at fields None = records_at text at ≡ []
TakesOne text at fields (Some next) = Takes text at next fields

-- the bytes from a place on up to where the next record begins are one record of these fields by themselves, and,
-- where they don't end with the text, before any others
pub record StandsAlone (text : List ℕ) (at next : ℕ) (fields : List (List ℕ)) : Type 0 where
  pub takes : Takes text at next fields
  pub alone : records default_config (between text at next) ≡ fields ∷ []
  pub before : next < length text → (rest : List ℕ)
      → records default_config (between text at next ++ rest)
      ≡ fields ∷ records default_config rest

-- where the first record from a place on ends, or no record
abbrev pub EndsOne : List ℕ → ℕ → Option ℕ → Type 0
EndsOne text at None = records_at text at ≡ []
EndsOne text at (Some next) = (fields : List (List ℕ)) × StandsAlone text at next fields

-- a record whose fields lie in the text, from a place on up to the first `count` of some ends
pub record TakesCut (text : List ℕ) (at next start count : ℕ) (ends : List ℕ) : Type 0 where
  pub takes : Takes text at next (cut text start (take count ends))
  pub order : InOrder (length text) start (take count ends)
  pub few : count ≤ length ends

-- the first record from a place on has more than n fields
abbrev pub IsWider : List ℕ → ℕ → ℕ → Type 0
IsWider text at n =
    (fields : List (List ℕ)) × (rest : Records)
    × (records_at text at ≡ fields ∷ rest) × (n < length fields)

-- the first record from a place on, with its fields in the text or read; no record; or too wide
abbrev pub IsRowAt : List ℕ → ℕ → ℕ → List ℕ → List (List ℕ) → Row → Type 0
IsRowAt text at next ends fields row.End = records_at text at ≡ []
IsRowAt text at next ends fields (row.Plain start count) = TakesCut text at next start count ends
IsRowAt text at next ends fields row.Quoted = Takes text at next fields
IsRowAt text at next ends fields row.Wide = IsWider text at (length ends)
