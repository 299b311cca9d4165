-- The texts of frames by their rows.
use Rattle.std.proofs.Common.{◌≡◌, ◌∙◌, ◌++◌, ◌∷◌, [], List, ℕ, true, map, flat_map, ap, refl, sym, Result, Ok, Err, OnErr}
use Rattle.std.specs.List.{range_with_len}
use Rattle.std.proofs.lemmas.List.Folds.{flat_map-map}
use Rattle.pipe_columns.specs.declared.schema.Field.{Field}
use Rattle.pipe_columns.specs.Frame.{ColumnData, FrameData, FitsSchema, fields_of, row_at}
use Rattle.pipe_csv.specs.Texts.{csv_text, line_of}
use Rattle.pipe_writers.specs.CsvLines.{csv_line, csv_lines}
use Rattle.pipe_writers.specs.JsonText.{json_lines, json_text}
use Rattle.pipe_lines.specs.Rows.{names_of, frame_rows}

names_same : (columns : List ColumnData) → names_of (fields_of columns) ≡ map (λ c. c.name) columns
names_same [] = refl
names_same (c ∷ cs) = ap (λ (ns : List (List ℕ)). c.name ∷ ns) (names_same cs)

-- the names of columns are those of the fields
names_fit : (fields : List Field) (frame : FrameData) → FitsSchema fields frame → names_of fields ≡ map (λ c. c.name) frame.columns
names_fit fields frame fit = ap names_of (sym fit) ∙ names_same frame.columns

-- the lines of a frame's rows behind its names are its text
pub csv-of-frame : (fields : List Field) (frame : FrameData) → FitsSchema fields frame → csv_lines true (names_of fields) (frame_rows frame) ≡ csv_text frame
csv-of-frame fields frame fit =
    ap (λ (ns : List (List ℕ)). line_of ns ++ flat_map csv_line (frame_rows frame)) (names_fit fields frame fit)
    ∙ ap (λ (bs : List ℕ). line_of (map (λ (x : ColumnData). x.name) frame.columns) ++ bs) (flat_map-map csv_line (row_at frame.columns) (range_with_len 0 frame.height))

-- and its JSON
pub json-of-frame : (fields : List Field) (frame : FrameData) → FitsSchema fields frame → json_lines (names_of fields) (frame_rows frame) ≡ json_text frame
json-of-frame fields frame fit = ap (λ (ns : List (List ℕ)). json_lines ns (frame_rows frame)) (names_fit fields frame fit)

-- what holds anyway holds where a call is refused
pub on-err : {T E : Type 0} {P : Type 0} (r : Result T E) → P → OnErr r P
on-err (Ok x) p = tt
on-err (Err e) p = p
