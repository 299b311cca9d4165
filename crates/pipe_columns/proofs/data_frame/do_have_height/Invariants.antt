use Rattle.std.proofs.Common.{take}
use Rattle.pipe_columns.specs.Frame.{IsFrame}
use Rattle.pipe_columns.proofs.data_frame.do_have_height.Given as goal

-- the columns so far are those of a frame
abbrev pub invariant-loop-column : goal.invariant-loop-column
invariant-loop-column l =
    IsFrame (record { height = l.height; columns = take l.column-index l.columns })
