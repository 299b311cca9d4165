-- What is left of a partition where an event was refused.
use Rattle.std.specs.Prelude.{◌≡◌, ◌≤◌, ℕ, Bool, List}
use Rattle.pipe_plan.specs.Run.{StoreSeen}
use Rattle.pipe_groups.specs.Groups.{held_at}
use Rattle.pipe_keyed.specs.Tables.{KeepsShape, Table}
use Rattle.pipe_global.specs.Partition.{PartitionSeen}

-- a table of the same shape and limit, which holds the same; its room may be another
pub record HoldsSame (t new : Table) : Type 0 where
  pub shape : KeepsShape t new
  pub held : (k : List ℕ) → held_at k new.groups ≡ held_at k t.groups

-- a store that is as before, but for its faults
pub record IsStoreKept (s new : StoreSeen) : Type 0 where
  pub told : new.told ≡ s.told
  pub held : new.held ≡ s.held
  pub sure : new.sure ≡ s.sure
  pub path : new.path ≡ s.path
  pub faults : s.faults ≤ new.faults

-- where an event was refused: all is as before, but for room, faults, and whether a put was refused
pub record IsKeptBut (s new : PartitionSeen) (failed : Bool) : Type 0 where
  pub table : HoldsSame s.table new.table
  pub store : IsStoreKept s.store new.store
  pub others : new ≡ record s { table = new.table; store = new.store; failed = failed }
