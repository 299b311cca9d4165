use Rattle.std.proofs.Common.{◌≡◌, ◌+◌, ◌≤◌, drop}
use Rattle.pipe_groups.specs.Layout.{AscendFrom, held_from}
use Rattle.pipe_groups.proofs.groups.held_bytes_of.Given as goal

-- with those of the other entries they are all, and they lie before these
abbrev pub invariant-loop-entry : goal.invariant-loop-entry
invariant-loop-entry l = record {
  ascend : AscendFrom l.start (drop l.entry-index l.entries);
  bytes : l.bytes + held_from l.start (drop l.entry-index l.entries) ≡ held_from 0 l.entries;
  before : l.bytes ≤ l.start;
}
