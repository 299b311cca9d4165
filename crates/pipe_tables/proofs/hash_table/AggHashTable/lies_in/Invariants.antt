use Rattle.std.proofs.Common.{◌≡◌, drop}
use Rattle.pipe_tables.specs.Tables.{do_all_lie}
use Rattle.pipe_tables.proofs.hash_table.AggHashTable.lies_in.Given as goal

-- the groups that are left decide
abbrev pub invariant-loop-index : goal.invariant-loop-index
invariant-loop-index l = do_all_lie l.partitions l.partition (drop l.index l.self.groups) ≡ do_all_lie l.partitions l.partition l.self.groups
