-- Rows as lines of either kind of text.
use Rattle.pipe_lines.specs.Lines.{LineText}
use Rattle.pipe_writers.specs.CsvLines.{csv_shape}
use Rattle.pipe_writers.specs.JsonText.{json_shape}
use Rattle.pipe_writers.specs.declared.text_lines.TextLines.{TextLines}
use Rattle.pipe_writers.specs.declared.text_lines.TextLines.TheVariants as text_lines

-- how rows become lines of the text
abbrev pub lines_shape : TextLines → LineText
lines_shape (text_lines.Csv l) = csv_shape l.include_header l.schema
lines_shape (text_lines.Json l) = json_shape l.schema
