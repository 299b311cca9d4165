-- Of the proofs alone: what there is for a row of a key.
use Rattle.std.specs.Prelude.{◌≡◌, ◌&&◌, not, ℕ, Bool, true, false, List, Option}
use Rattle.pipe_chains.specs.Hash.{hash_of}
use Rattle.pipe_groups.specs.Groups.{count_held, Group, is_covered, is_held}
use Rattle.pipe_tables.specs.declared.spot.Spot.{Spot}
use Rattle.pipe_keyed.specs.Keyed.{IsAt}
use Rattle.pipe_tables.specs.declared.spot.Spot.TheVariants.{At, New, Full}
use Rattle.pipe_tables.specs.Tables.{passes}

-- whether a limit refuses a row of a key: it is passed, and no row of the key is held
abbrev pub refuses : Option ℕ → List Group → List ℕ → Bool
refuses limit gs key = passes (count_held gs) limit && not (is_held key gs)

-- what there is for a row of a key: its group, no group yet and its hash, or a limit that refuses it
abbrev pub IsSpot : Option ℕ → List Group → List ℕ → Spot → Type 0
IsSpot limit gs key (At i) = IsAt gs key i × (refuses limit gs key ≡ false)
IsSpot limit gs key (New hash) =
    (is_covered key gs ≡ false) × (hash ≡ hash_of key) × (refuses limit gs key ≡ false)
IsSpot limit gs key Full = refuses limit gs key ≡ true
