-- The rows of frames that are joined.
use Rattle.std.proofs.Common.{◌≡◌, ◌∙◌, ◌+◌, ◌<◌, ◌≤◌, ◌==◌, ◌∷◌, ◌++◌, [], ℕ, Option, Some, None, ap₂, arith, true, subst}
use Rattle.pipe_columns.specs.Frame.{FrameData, all_have_height}
use Rattle.pipe_writers.specs.Waiting.{waiting_rows}
use Rattle.pipe_writers.specs.Kept.{StacksOn, with_frame_below}
use Rattle.pipe_lines.specs.Rows.{frame_rows}
use Rattle.pipe_lines.proofs.StackedRows.{rows_stacked}

-- the rows of a frame below what was gathered
pub rows_below : (o : Option FrameData) (first frame : FrameData) → o ≡ Some first → StacksOn o frame → all_have_height first.height first.columns ≡ true
    → frame_rows (with_frame_below o frame) ≡ waiting_rows o ++ frame_rows frame
rows_below None first frame e s tall = cc e
rows_below (Some f) first frame e s tall =
    let same : first ≡ f = cc in
    rows_stacked f frame s.fields (subst (λ (x : FrameData). all_have_height x.height x.columns ≡ true) same tall)
