-- What joins frames until they have enough rows.
use Rattle.std.specs.Prelude.{◌==◌, ℕ, Option, Some, None, nat_le, if◌then◌else◌}
use Rattle.pipe_columns.specs.Frame.{FrameData}
use Rattle.pipe_writers.specs.Kept.{with_frame_below}

-- how many rows are enough, and what waits
pub record VstackerData : Type 0 where
  pub rows : ℕ
  pub waiting : Option FrameData

-- the frame that one more frame completes, if it does
abbrev pub completed : VstackerData → FrameData → Option FrameData
completed v frame =
    let all : FrameData = with_frame_below v.waiting frame in
    if nat_le v.rows all.height then Some all else None

-- what waits after one more frame
abbrev pub left_waiting : VstackerData → FrameData → Option FrameData
left_waiting v frame =
    let all : FrameData = with_frame_below v.waiting frame in
    if nat_le v.rows all.height then None else Some all

-- a frame that has rows
abbrev pub if_rows : Option FrameData → Option FrameData
if_rows None = None
if_rows (Some frame) = if frame.height == 0 then None else Some frame
