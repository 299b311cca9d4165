use Rattle.std.proofs.Common.{◌≡◌, ◌+◌, drop, length, take}
use Rattle.pipe_saving.specs.Lists.{values_in}
use Rattle.pipe_saving.proofs.RowFacts.{SameFrom}
use Rattle.pipe_saving.proofs.rows.take_values.Given as goal

-- the values so far; the lists behind are as before, and all of them behind the number
abbrev pub invariant-loop-i : goal.invariant-loop-i
invariant-loop-i l = record {
  values : l.values.items ≡ values_in l.number (take l.i l.fn.lists);
  behind : drop l.i l.lists ≡ drop l.i l.fn.lists;
  rest : SameFrom (l.number + 1) l.lists l.fn.lists;
  many : length l.lists ≡ length l.fn.lists;
}
