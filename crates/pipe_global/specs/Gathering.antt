-- Of the proofs alone: a closed partition that gathers its rows into its table.
use Rattle.std.specs.Prelude.{◌≡◌, ◌-◌, ◌<◌, ℕ, true, List, [], ◌∷◌, ◌++◌, is_some, length, map, Option, slice_index_or}
use Rattle.std.specs.List.{Contains, IsDistinct}
use Rattle.std.specs.Str.{bytes_eq}
use Rattle.pipe_columns.specs.declared.place.Place.{Place}
use Rattle.pipe_columns.specs.Frame.{FrameData}
use Rattle.pipe_columns.specs.Slice.{sliced}
use Rattle.pipe_spill.specs.SpillRow.{joined_rows}
use Rattle.pipe_spill.specs.declared.spill_row.SpillRow.{SpillRow}
use Rattle.pipe_groups.specs.Given.{in_order, IsFrameOfGroups, slice_after}
use Rattle.pipe_groups.specs.Groups.{count_held, group_keys}
use Rattle.pipe_groups.specs.Holds.{Holds}
use Rattle.pipe_groups.specs.Pieces.{PiecesSeen}
use Rattle.pipe_groups.specs.QueryRows.{ArePlaced}
use Rattle.pipe_keyed.specs.Tables.{KeepsShape, Table}
use Rattle.pipe_global.specs.declared.mark.Mark.{Mark}
use Rattle.pipe_global.specs.Finishing.{AreOwn, CanGather, IsMarked, IsRestOf, KeepsRest, own_rows, StandMoved, StandsForRows}
use Rattle.pipe_global.specs.Moving.{TookRows}
use Rattle.pipe_global.specs.Partition.{PartitionSeen}
use Rattle.pipe_global.specs.Refused.{IsStoreKept}

-- ---- one frame

-- it is the last of some marks
pub record IsLast (marks : List Mark) (m : Mark) : Type 0 where
  pub some : 0 < length marks
  pub at : (d : Mark) → slice_index_or marks (length marks - 1) d ≡ m

-- the frame of a mark can be read: the store has it, and where it tells, it is that of own rows
pub record CanRead (s : PartitionSeen) (m : Mark) : Type 0 where
  pub exists : s.number < s.partitions
  pub number : m.number < s.store.held
  pub listed : Contains (map (λ m. m.number) s.marks) m.number
  pub marked : is_some s.store.told ≡ true → (rows : List SpillRow) × IsMarked s m rows

-- rows were read at a mark: where its frame is told, they are its rows
pub record HasRead (s : PartitionSeen) (m : Mark) (rows : List SpillRow) : Type 0 where
  pub own : AreOwn s rows
  pub count : length rows ≡ m.rows
  pub back : (others : List SpillRow) → IsMarked s m others → others ≡ rows

-- the store was asked
pub record HasAsked (s new : PartitionSeen) : Type 0 where
  pub store : IsStoreKept s.store new.store
  pub others : new ≡ record s { store = new.store }

-- the rows of the last mark's frame were moved into the table
pub record HasTakenFrame (s : PartitionSeen) (m : Mark) (rows : List SpillRow) (new : PartitionSeen)
    : Type 0 where
  pub taken : TookRows s.table new.table rows
  pub marks : s.marks ≡ new.marks ++ m ∷ []
  pub others : new ≡ record s { table = new.table; marks = new.marks }

-- what waited was moved into the table
pub record HasTakenWaiting (s new : PartitionSeen) : Type 0 where
  pub taken : TookRows s.table new.table (joined_rows s.waiting)
  pub others : new ≡ record s { table = new.table; waiting = [] }

-- ---- some of it, and all

-- some rows were gathered: it goes on, and stands for the same rows
pub record HasGathered (s new : PartitionSeen) : Type 0 where
  pub kept : KeepsRest s new
  pub gathers : (more : ℕ) → CanGather s more → CanGather new more
  pub stands : (rows : List SpillRow) → StandsForRows s rows → StandsForRows new rows
  pub marks : (n : ℕ) → Contains (map (λ m. m.number) new.marks) n
      → Contains (map (λ m. m.number) s.marks) n

-- the local rows of the partition were taken in: the table holds them beside its own
pub record HasTakenLocal (s new : PartitionSeen) (local left : Table) : Type 0 where
  pub holds : (rows locals : List SpillRow) → Holds s.table.shape.prototypes s.table.groups rows
      → Holds s.table.shape.prototypes local.groups locals
      → Holds s.table.shape.prototypes new.table.groups (rows ++ own_rows s locals)
  pub shape : KeepsShape s.table new.table
  pub rest : IsRestOf s local left
  pub others : new ≡ record s { table = new.table }

-- all rows are in the table, those of the local table too
pub record HoldsAllRows (s new : PartitionSeen) (local left : Table) : Type 0 where
  pub waiting : new.waiting ≡ []
  pub marks : new.marks ≡ []
  pub moved : StandMoved s new local left
  pub rest : IsRestOf s local left

-- ---- groups are given

-- the groups of the table were given under a slice, of which this is left
pub record HasGiven (s : PartitionSeen) (slice left : Option (ℕ × ℕ)) (frame : FrameData) : Type 0 where
  pub apart : IsDistinct bytes_eq (group_keys s.table.groups)
  pub frame_is : IsFrameOfGroups s.table.shape (sliced slice (in_order s.table.groups)) frame
  pub left_is : left ≡ slice_after (count_held s.table.groups) slice

-- the groups of the table are to be given piece by piece under a slice, of which this is left
pub record HasGivenPieces (s : PartitionSeen) (slice left : Option (ℕ × ℕ)) (pieces : PiecesSeen)
    : Type 0 where
  pub apart : IsDistinct bytes_eq (group_keys s.table.groups)
  pub pieces_are : pieces
      ≡ record { shape = s.table.shape; left = sliced slice (in_order s.table.groups) }
  pub left_is : left ≡ slice_after (count_held s.table.groups) slice

-- all groups of the table were given, with their least places
pub record HasGivenPlaced (s : PartitionSeen) (frame : FrameData) (firsts : List Place) : Type 0 where
  pub apart : IsDistinct bytes_eq (group_keys s.table.groups)
  pub placed : ArePlaced s.table.shape s.table.groups frame firsts

-- a partition whose table has no group
abbrev pub without_groups : PartitionSeen → PartitionSeen
without_groups s =
    record s { table = record { shape = s.table.shape; limit = s.table.limit; groups = [] } }
