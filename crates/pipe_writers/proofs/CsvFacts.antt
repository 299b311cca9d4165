-- Lines that a CSV writer writes behind a text.
use Rattle.std.proofs.Common.{◌≡◌, ◌∙◌, ◌+◌, ◌<◌, ◌≤◌, ◌++◌, [], ℕ, List, Option, Some, None, false, refl, sym, ap, append-nil, arith, length, length-append}
use Rattle.std.specs.Io.KnownBytes.{Keeps}
use Rattle.csv.specs.Writing.{default_writer, writer_setup, fields_written, has_written, writer_under, writer_pending, is_blank}
use Rattle.pipe_columns.specs.Frame.{FrameData, row_at}
use Rattle.pipe_csv.specs.Written.{HasWritten, TextWriter}
use Rattle.pipe_writers.specs.CsvLines.{csv_line}
use Rattle.pipe_writers.specs.CsvWritten.{WroteLines}
use Rattle.pipe_lines.specs.Rows.{frame_rows}
use Rattle.pipe_lines.proofs.LineFacts.{goes_on}

-- a writer as it begins behind a text
pub begun : (writer : TextWriter) (text : List ℕ) → (writer_under writer).items ≡ text → writer_pending writer ≡ []
    → writer_setup writer ≡ default_writer → fields_written writer ≡ 0 → has_written writer ≡ false
    → HasWritten writer text []
unfolding is_blank
begun writer text under pending setup count wrote = record {
  setup = setup;
  bytes = rw (under, pending) refl;
  count = count;
  blank = rw wrote refl;
}

-- what is taken out is what was written
pub taken_out : (told out : Option (List ℕ)) (text items : List ℕ) → told ≡ Some (text ++ []) → Keeps told out → out ≡ Some items → items ≡ text
taken_out None out text items is keeps same = cc
taken_out (Some a) None text items is keeps same = cc
taken_out (Some a) (Some b) text items is keeps same =
    let e : b ≡ items = cc in
    let f : a ≡ text ++ [] = cc in
    sym e ∙ keeps ∙ f ∙ append-nil text

-- a record more
pub one_line_more : (f : FrameData) (from to : ℕ) (old : List ℕ) (before after : TextWriter) → to < f.height → WroteLines (frame_rows f) from to old before
    → ((text : List ℕ) → HasWritten before text [] → HasWritten after (text ++ csv_line (row_at f.columns to)) []) → WroteLines (frame_rows f) from (to + 1) old after
one_line_more f from to old before after within wrote adds =
    (wrote.0 ++ csv_line (row_at f.columns to), adds wrote.0 wrote.1, goes_on csv_line f from to old wrote.0 within wrote.2)

-- what lies below a writer is no longer than what it has written
pub under-within : (writer : TextWriter) (text : List ℕ) (most : ℕ) → most ≤ length (writer_under writer).items → HasWritten writer text [] → most ≤ length text
under-within writer text most below has =
    let under : List ℕ = (writer_under writer).items in
    let parts : Some (under ++ writer_pending writer) ≡ Some (text ++ []) = has.bytes in
    let same : under ++ writer_pending writer ≡ text ++ [] = cc in
    let long : length text ≡ length under + length (writer_pending writer) = sym (ap length (same ∙ append-nil text)) ∙ length-append under (writer_pending writer) in
    omega (arith, long, below)
