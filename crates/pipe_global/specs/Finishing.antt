-- A closed partition that gives its groups: the rows that it and a local table stand for, when it can
-- give them, and what it gives.
use Rattle.std.specs.Prelude.{◌≡◌, ◌+◌, ◌^◌, ◌<◌, ◌⊎◌, not, ℕ, true, List, [], ◌++◌, All, filter, if◌then◌else◌, is_some, length, map, Option, Some, None, slice_get, sum_by}
use Rattle.std.specs.List.{AllZip, Contains, IsDistinct}
use Rattle.std.specs.List.Sorted.{IsPermutation}
use Rattle.std.specs.Str.{bytes_eq}
use Rattle.pipe_columns.specs.declared.place.Place.{Place}
use Rattle.pipe_columns.specs.Causes.{Rose}
use Rattle.pipe_columns.specs.Frame.{FrameData}
use Rattle.pipe_columns.specs.Slice.{sliced}
use Rattle.pipe_plan.specs.Replay.{joined_lists}
use Rattle.pipe_spill.specs.FrameBytes.{frame_bytes}
use Rattle.pipe_spill.specs.SpillRow.{AreRows, joined_rows}
use Rattle.pipe_spill.specs.declared.spill_row.SpillRow.{SpillRow}
use Rattle.pipe_groups.specs.Given.{in_order, IsFrameOfGroups, slice_after}
use Rattle.pipe_groups.specs.Groups.{count_held, Group, held_at, group_keys}
use Rattle.pipe_groups.specs.Holds.{Holds}
use Rattle.pipe_groups.specs.Pieces.{PiecesSeen}
use Rattle.pipe_groups.specs.QueryRows.{ArePlaced}
use Rattle.pipe_groups.specs.Shape.{Shape}
use Rattle.pipe_keyed.specs.Tables.{KeepsShape, Table}
use Rattle.pipe_tables.specs.Tables.{lies_in}
use Rattle.pipe_global.specs.declared.batch_error.BatchError.{BatchError}
use Rattle.pipe_global.specs.declared.batch_error.BatchError.TheVariants as batch_error
use Rattle.pipe_global.specs.declared.mark.Mark.{Mark}
use Rattle.pipe_global.specs.Partition.{PartitionSeen}
use Rattle.pipe_global.specs.Refused.{HoldsSame, IsStoreKept}

-- ---- rows of a partition

-- the rows whose keys lie in the partition
abbrev pub own_rows : PartitionSeen → List SpillRow → List SpillRow
own_rows s rows = filter (λ r. lies_in s.partitions s.number r.key) rows

-- the rows whose keys lie elsewhere
abbrev pub other_rows : PartitionSeen → List SpillRow → List SpillRow
other_rows s rows = filter (λ r. not (lies_in s.partitions s.number r.key)) rows

-- rows of the types of the partition's table, whose keys lie in the partition
pub record AreOwn (s : PartitionSeen) (rows : List SpillRow) : Type 0 where
  pub typed : AreRows s.table.shape.key_types s.table.shape.input_types rows
  pub lie : All (λ r. lies_in s.partitions s.number r.key ≡ true) rows

-- ---- what it stands for

-- the store tells the frame of these rows under the number of a mark, which counts them
pub record IsMarked (s : PartitionSeen) (m : Mark) (rows : List SpillRow) : Type 0 where
  pub frames : List (List ℕ)
  pub told : s.store.told ≡ Some frames
  pub frame : slice_get frames m.number ≡ Some (frame_bytes s.table.shape.input_types rows)
  pub count : length rows ≡ m.rows
  pub own : AreOwn s rows

-- the partition stands for rows: those that its table holds, those that wait, and those of the frame
-- at each mark
pub record StandsForRows (s : PartitionSeen) (rows : List SpillRow) : Type 0 where
  pub held : List SpillRow
  pub frames : List (List SpillRow)
  pub holds : Holds s.table.shape.prototypes s.table.groups held
  pub marked : AllZip (IsMarked s) s.marks frames
  pub all : IsPermutation rows (held ++ (joined_rows s.waiting ++ joined_lists frames))

-- a partition and a local table of its shape stand for rows
pub record StandFor (s : PartitionSeen) (local : Table) (rows locals : List SpillRow)
    : Type 0 where
  pub stands : StandsForRows s rows
  pub holds : Holds s.table.shape.prototypes local.groups locals

-- ---- when it can give them

-- the table holds rows of the partition which, with those that wait, those that marks count, and so
-- many more, number fewer than 2^32
pub record HoldsFewOwn (s : PartitionSeen) (more : ℕ) : Type 0 where
  pub rows : List SpillRow
  pub holds : Holds s.table.shape.prototypes s.table.groups rows
  pub own : AreOwn s rows
  pub few : length rows + length (joined_rows s.waiting) + sum_by (λ m. m.rows) s.marks + more
      < 2 ^ 32

-- the partition can gather its rows, and so many more: its own wait, its store has a frame at each
-- mark, and where it tells, that is a frame of so many rows of the partition
pub record CanGather (s : PartitionSeen) (more : ℕ) : Type 0 where
  pub exists : s.number < s.partitions
  pub limit : s.table.limit ≡ None
  pub few : HoldsFewOwn s more
  pub waiting : AreOwn s (joined_rows s.waiting)
  pub numbers : All (λ m. m.number < s.store.held) s.marks
  pub marked : is_some s.store.told ≡ true
      → All (λ m. (rows : List SpillRow) × IsMarked s m rows) s.marks

-- it can give the groups of its rows and of those of a local table, which is of its shape
pub record CanFinish (s : PartitionSeen) (local : Table) : Type 0 where
  pub shape : local.shape ≡ s.table.shape
  pub locals : List SpillRow
  pub holds : Holds s.table.shape.prototypes local.groups locals
  pub typed : AreRows s.table.shape.key_types s.table.shape.input_types locals
  pub gathers : CanGather s (length locals)

-- ---- what it gives

-- a frame of the groups of rows, under a slice, of which this is left
pub record GivesGroups (shape : Shape) (slice left : Option (ℕ × ℕ)) (rows : List SpillRow)
    (frame : FrameData) : Type 0 where
  pub groups : List Group
  pub apart : IsDistinct bytes_eq (group_keys groups)
  pub holds : Holds shape.prototypes groups rows
  pub frame_is : IsFrameOfGroups shape (sliced slice (in_order groups)) frame
  pub left_is : left ≡ slice_after (count_held groups) slice

-- the groups of rows, in the order of their keys, are to be given under a slice, of which this is left
pub record GivesPieces (shape : Shape) (slice left : Option (ℕ × ℕ)) (rows : List SpillRow)
    (pieces : PiecesSeen) : Type 0 where
  pub groups : List Group
  pub apart : IsDistinct bytes_eq (group_keys groups)
  pub holds : Holds shape.prototypes groups rows
  pub pieces_are : pieces ≡ record { shape = shape; left = sliced slice (in_order groups) }
  pub left_is : left ≡ slice_after (count_held groups) slice

-- a frame of the groups of rows, and the least place of the rows of each
pub record GivesPlaced (shape : Shape) (rows : List SpillRow) (frame : FrameData)
    (firsts : List Place) : Type 0 where
  pub groups : List Group
  pub apart : IsDistinct bytes_eq (group_keys groups)
  pub holds : Holds shape.prototypes groups rows
  pub placed : ArePlaced shape groups frame firsts

-- a frame of the groups of some rows of the partition, under a slice, of which this is left
pub record GivesOwn (s : PartitionSeen) (slice left : Option (ℕ × ℕ)) (frame : FrameData)
    : Type 0 where
  pub rows : List SpillRow
  pub own : AreOwn s rows
  pub gives : GivesGroups s.table.shape slice left rows frame

-- the groups of some rows of the partition are to be given under a slice, of which this is left
pub record GivesOwnPieces (s : PartitionSeen) (slice left : Option (ℕ × ℕ)) (pieces : PiecesSeen)
    : Type 0 where
  pub rows : List SpillRow
  pub own : AreOwn s rows
  pub gives : GivesPieces s.table.shape slice left rows pieces

-- a frame of the groups of some rows of the partition, and the least place of the rows of each
pub record GivesOwnPlaced (s : PartitionSeen) (frame : FrameData) (firsts : List Place)
    : Type 0 where
  pub rows : List SpillRow
  pub own : AreOwn s rows
  pub gives : GivesPlaced s.table.shape rows frame firsts

-- ---- what is left

-- the partition stands for no row: its table has no group, no payload waits, and no frame is marked
pub record IsEmptied (s : PartitionSeen) : Type 0 where
  pub groups : s.table.groups ≡ []
  pub waiting : s.waiting ≡ []
  pub marks : s.marks ≡ []

-- but for the groups of its table, what waits, its marks, and faults of its store, all is as before
pub record KeepsRest (s new : PartitionSeen) : Type 0 where
  pub shape : KeepsShape s.table new.table
  pub store : IsStoreKept s.store new.store
  pub others : new ≡ record s {
    table = new.table;
    waiting = new.waiting;
    store = new.store;
    marks = new.marks;
  }

-- a local table, which holds what it held at the keys of other partitions, and nothing of this one
pub record IsRestOf (s : PartitionSeen) (local new : Table) : Type 0 where
  pub shape : KeepsShape local new
  pub held : (k : List ℕ) → held_at k new.groups
      ≡ (if lies_in s.partitions s.number k then None else held_at k local.groups)

-- a local table where nothing was given: it holds the same, or no more what it held of the partition
abbrev pub IsLeftOf : PartitionSeen → Table → Table → Type 0
IsLeftOf s local new = HoldsSame local new ⊎ IsRestOf s local new

-- the partition and the local table stand for what they stood for
abbrev pub StandAsBefore : PartitionSeen → PartitionSeen → Table → Table → Type 0
StandAsBefore s new local left =
    (rows locals : List SpillRow) → StandFor s local rows locals → StandFor new left rows locals

-- and the local rows of the partition are the partition's
abbrev pub StandMoved : PartitionSeen → PartitionSeen → Table → Table → Type 0
StandMoved s new local left =
    (rows locals : List SpillRow) → StandFor s local rows locals
    → StandFor new left (rows ++ own_rows s locals) (other_rows s locals)

-- either of both, so together they stand for the same rows
abbrev pub StandTogether : PartitionSeen → PartitionSeen → Table → Table → Type 0
StandTogether s new local left = StandAsBefore s new local left ⊎ StandMoved s new local left

-- ---- why it gave nothing

-- its store's count of faults is as before
abbrev pub HasNoFault : PartitionSeen → PartitionSeen → Type 0
HasNoFault s new = new.store.faults ≡ s.store.faults

-- the fault is that of the partition: its store's faults rose; or they are as before, and the store
-- doesn't tell, and what it gave for a mark is another frame than was put; or memory ran out
abbrev pub IsCause : PartitionSeen → PartitionSeen → BatchError → Type 0
IsCause s new (batch_error.Store p) = (p ≡ s.number) × Rose s.store.faults new.store.faults
IsCause s new (batch_error.Damaged p n) =
    (p ≡ s.number) × (s.store.told ≡ None) × Contains (map (λ m. m.number) s.marks) n
    × HasNoFault s new
IsCause s new batch_error.Memory = HasNoFault s new
