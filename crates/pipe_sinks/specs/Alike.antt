-- Of the proofs alone: what a call leaves of a table.
use Rattle.std.specs.Prelude.{◌≡◌, ℕ, List}
use Rattle.pipe_spill.specs.declared.spill_row.SpillRow.{SpillRow}
use Rattle.pipe_groups.specs.Groups.{AreJoined}
use Rattle.pipe_groups.specs.Holds.{Holds}
use Rattle.pipe_keyed.specs.Keyed.{IsAt}
use Rattle.pipe_keyed.specs.Tables.{Table}

-- a table of the same shape that holds whatever rows another held
pub record HoldAlike (t u : Table) : Type 0 where
  pub shape : u.shape ≡ t.shape
  pub holds : (rows : List SpillRow) → Holds t.shape.prototypes t.groups rows
      → Holds t.shape.prototypes u.groups rows

-- groups stay where they are, with their keys
abbrev pub KeysStay : Table → Table → Type 0
KeysStay t u = (k : List ℕ) (i : ℕ) → IsAt t.groups k i → IsAt u.groups k i

-- a table that took the rows of another in
pub record TookTable (old other now : Table) : Type 0 where
  pub joined : AreJoined old.shape.prototypes old.groups other.groups now.groups
  pub shape : now.shape ≡ old.shape
