use Rattle.std.proofs.Common.{◌≡◌, length, map, take}
use Rattle.pipe_columns.proofs.FrameFacts.{changed}
use Rattle.pipe_regroup.specs.Frames.{values_at, values_of, without}
use Rattle.pipe_regroup.proofs.frame.take_values.Given as goal

-- the values of the rows so far, which are without them
abbrev pub invariant-loop-i : goal.invariant-loop-i
invariant-loop-i l = record {
  values : l.values.items ≡ values_at l.place (take l.i (map values_of l.fn.groups));
  rows : map values_of l.groups ≡ changed (without l.place) l.i (map values_of l.fn.groups);
  many : length l.groups ≡ length l.fn.groups;
}
