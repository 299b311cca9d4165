-- How far the rows of groups go.
use Rattle.std.specs.Prelude.{◌≡◌, ℕ, List, length, map, None}
use Rattle.pipe_columns.specs.Place.{last_entry}
use Rattle.pipe_groups.specs.Groups.{Group}
use Rattle.pipe_groups.specs.Holds.{entries_of, Holds, of_key}
use Rattle.pipe_groups.specs.Shape.{Shape}
use Rattle.pipe_keyed.specs.Tables.{Table}
use Rattle.pipe_saving.specs.declared.extent.Extent.{Extent}
use Rattle.pipe_spill.specs.SpillRow.{AreRows}
use Rattle.pipe_spill.specs.declared.spill_row.SpillRow.{SpillRow}
use Rattle.pipe_states.specs.States.{place_of}

-- how far the rows of a key go: their greatest place, and how many they are
abbrev pub extent_of : List SpillRow → List ℕ → Extent
extent_of rows key = record {
  last = place_of (last_entry (entries_of (of_key key rows)));
  rows = length (of_key key rows);
}

-- the extents of groups, in their order
abbrev pub extents_of : List SpillRow → List Group → List Extent
extents_of rows gs = map (λ g. extent_of rows g.key) gs

-- a table of a shape, without a limit, holds rows, and beside its groups stand their extents
pub record IsFed (s : Shape) (rows : List SpillRow) (t : Table) (beside : List Extent)
    : Type 0 where
  pub shape : t.shape ≡ s
  pub limit : t.limit ≡ None
  pub holds : Holds s.prototypes t.groups rows
  pub typed : AreRows s.key_types s.input_types rows
  pub extents : beside ≡ extents_of rows t.groups
