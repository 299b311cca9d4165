use Rattle.std.proofs.Common.{◌+◌, ◌<◌, ◌≤◌, ◌^◌, take}
use Rattle.pipe_kinds.specs.Stored.{HaveRoom}
use Rattle.pipe_kinds.proofs.StoredFacts.{AreReserved}
use Rattle.pipe_kinds.proofs.columns.reserve_all.Given as goal

-- the columns so far have the memory
abbrev pub invariant-loop-j : goal.invariant-loop-j
invariant-loop-j l = record {
  reserved : AreReserved l.fn.columns l.columns;
  room : HaveRoom l.room (take l.j l.columns);
  enough : l.more ≤ l.room;
  bound : l.count + l.room < 2 ^ 64;
}
