-- The text of a frame, and how rows become lines, in the format that is asked for.
use Rattle.std.specs.Prelude.{ℕ, List, true}
use Rattle.pipe_columns.specs.declared.schema.Field.{Field}
use Rattle.pipe_columns.specs.Frame.{FrameData}
use Rattle.pipe_csv.specs.Texts.{csv_text}
use Rattle.pipe_lines.specs.Lines.{LineText}
use Rattle.pipe_words.specs.declared.plan.Format.{Format}
use Rattle.pipe_words.specs.declared.plan.Format.TheVariants as format
use Rattle.pipe_writers.specs.CsvLines.{csv_shape}
use Rattle.pipe_writers.specs.JsonText.{json_shape, json_text}

-- the text of a frame: CSV behind a line of names, or a line of JSON for each row
abbrev pub text_in : Format → FrameData → List ℕ
text_in format.Csv frame = csv_text frame
text_in format.Json frame = json_text frame

-- how rows of some fields become lines
abbrev pub shape_in : Format → List Field → LineText
shape_in format.Csv fields = csv_shape true fields
shape_in format.Json fields = json_shape fields
