-- Rows as lines of a text.
use Rattle.std.specs.Prelude.{◌≡◌, ℕ, List, ◌++◌, flat_map, take, Vec}
use Rattle.std.specs.declared.alloc.Global.{Global}
use Rattle.pipe_columns.specs.declared.schema.Field.{Field}
use Rattle.pipe_columns.specs.Frame.{FrameData}
use Rattle.pipe_lines.specs.Rows.{Row, frame_rows}

-- how rows become lines: a text in front, and a line for each row
pub record LineText : Type 0 where
  pub fields : List Field
  pub head : List ℕ
  pub line : Row → List ℕ

-- the text of rows
abbrev pub text_of_lines : LineText → List Row → List ℕ
text_of_lines t rows = t.head ++ flat_map t.line rows

-- the lines of a frame's rows
abbrev pub lines_of : LineText → FrameData → List ℕ
lines_of t frame = flat_map t.line (frame_rows frame)

-- texts, one behind another
abbrev pub joined_texts : List (Vec ℕ Global) → List ℕ
joined_texts texts = flat_map (λ t. t.items) texts

-- a text went on with the lines of the rows from one place up to another: what was lines up to the
-- first, with something in front and some of it sent, is lines up to the second
abbrev pub GoesOn : (Row → List ℕ) → List Row → ℕ → ℕ → List ℕ → List ℕ → Type 0
GoesOn line rows from to old new =
    (sent head : List ℕ) → sent ++ old ≡ head ++ flat_map line (take from rows)
    → sent ++ new ≡ head ++ flat_map line (take to rows)
