use Rattle.std.proofs.Common.{◌≡◌, ◌++◌, take, drop}
use Rattle.pipe_inputs.specs.ChunkRows.{row_at}
use Rattle.pipe_running.specs.GroupStates.{fed_from}
use Rattle.test_plain.proofs.groups.Group.feed.Given as goal

-- the states so far are fed, and the others as they were
abbrev pub invariant-loop-j : goal.invariant-loop-j
invariant-loop-j l = let inputs = (row_at l.rows l.row).inputs in record {
  key : l.self.key ≡ l.fn.self.key;
  first : l.self.first ≡ l.fn.self.first;
  left : drop l.j l.self.states.items ≡ drop l.j l.fn.self.states.items;
  fed : take l.j l.self.states.items ++ fed_from l.place l.j inputs (drop l.j l.self.states.items) ≡ fed_from l.place 0 inputs l.fn.self.states.items;
}
