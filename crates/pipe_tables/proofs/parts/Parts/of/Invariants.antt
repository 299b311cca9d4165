use Rattle.std.proofs.Common.{◌≡◌, take}
use Rattle.pipe_groups.specs.Groups.{group_keys}
use Rattle.pipe_tables.specs.Parts.{marks_in}
use Rattle.pipe_tables.proofs.parts.Parts.of.Given as goal

abbrev pub invariant-loop-index : goal.invariant-loop-index
invariant-loop-index l = l.chains.leads ≡ marks_in l.partitions (group_keys (take l.index l.keyed.groups))
