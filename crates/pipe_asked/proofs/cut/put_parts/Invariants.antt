use Rattle.std.proofs.Common.{◌≡◌, ◌<◌, ℕ, List, None, length}
use Rattle.std.specs.Prelude.{if◌then◌else◌}
use Rattle.std.specs.List.{slice_index_or}
use Rattle.pipe_groups.specs.Groups.{held_at}
use Rattle.pipe_keyed.specs.Tables.{Table}
use Rattle.pipe_asked.specs.Tasks.{IsPartOf}
use Rattle.pipe_asked.proofs.SideBySide.{from_on}
use Rattle.pipe_asked.proofs.cut.put_parts.Given as goal

-- the parts of the partitions before were taken, and the local table has the others
abbrev pub invariant-loop-partition : goal.invariant-loop-partition
invariant-loop-partition l = record {
  count : length l.parts.items ≡ l.partition;
  shape : l.local.shape ≡ l.fn.local.shape;
  left : (k : List ℕ) → held_at k l.local.groups ≡ (if from_on l.partitions l.partition k then held_at k l.fn.local.groups else None);
  parts : (p : ℕ) (d : Table) → p < l.partition → IsPartOf l.partitions p l.fn.local (slice_index_or l.parts.items p d);
}
