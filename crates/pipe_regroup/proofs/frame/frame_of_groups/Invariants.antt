use Rattle.std.proofs.Common.{◌≡◌, map, take}
use Rattle.pipe_columns.specs.Frame.{columns_from}
use Rattle.pipe_regroup.specs.Frames.{values_of}
use Rattle.pipe_regroup.proofs.FrameRows.{emptied}
use Rattle.pipe_regroup.proofs.frame.frame_of_groups.Given as goal

-- the columns so far, whose values the rows are without
abbrev pub invariant-loop-place : goal.invariant-loop-place
invariant-loop-place l = record {
  columns : l.columns.items ≡ columns_from 0 (take l.place l.fields) (map values_of l.fn.groups);
  rows : map values_of l.groups ≡ map (emptied l.place) (map values_of l.fn.groups);
}
