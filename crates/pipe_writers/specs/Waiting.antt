-- The rows of a frame that waits.
use Rattle.std.specs.Prelude.{List, [], Option, Some, None}
use Rattle.pipe_columns.specs.Frame.{FrameData}
use Rattle.pipe_lines.specs.Rows.{Row, frame_rows}

-- the rows of what waits
abbrev pub waiting_rows : Option FrameData → List Row
waiting_rows None = []
waiting_rows (Some frame) = frame_rows frame
