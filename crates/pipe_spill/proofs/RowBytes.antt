-- Rows of a frame one after another.
use Rattle.std.proofs.Common.{◌≡◌, ◌++◌, ◌∙◌, ◌+◌, ◌<◌, ℕ, List, [], ◌∷◌, length, drop, get_or, refl, ap, sym, append_assoc}
use Rattle.std.proofs.lemmas.List.{drop_more}
use Rattle.pipe_columns.specs.declared.data_type.DataType.{DataType}
use Rattle.pipe_spill.specs.FrameBytes.{row_bytes, rows_bytes}
use Rattle.pipe_spill.specs.SpillRow.{joined_rows, Payload}
use Rattle.pipe_spill.specs.declared.spill_row.SpillRow.{SpillRow}

-- the bytes of rows joined
pub rows_bytes-append : (types : List DataType) (rows more : List SpillRow) → rows_bytes types (rows ++ more) ≡ rows_bytes types rows ++ rows_bytes types more
rows_bytes-append types [] more = refl
rows_bytes-append types (r ∷ rows) more =
    ap (λ (l : List ℕ). row_bytes types r ++ l) (rows_bytes-append types rows more) ∙ sym (append_assoc (row_bytes types r) (rows_bytes types rows) (rows_bytes types more))

-- a piece is written, and the bytes that are left are fewer by it
written : (old new piece rest left all : List ℕ) → left ≡ piece ++ rest → old ++ left ≡ all → new ≡ old ++ piece → new ++ rest ≡ all
written old new piece rest left all is so_far wrote =
    ap (λ (l : List ℕ). l ++ rest) wrote ∙ append_assoc old piece rest ∙ ap (λ (l : List ℕ). old ++ l) (sym is) ∙ so_far

-- one row more is written, and one fewer is left
pub row_written : (types : List DataType) (rows : List SpillRow) (i : ℕ) (r : SpillRow) (old new all : List ℕ) → i < length rows → r ≡ get_or rows i r
    → old ++ rows_bytes types (drop i rows) ≡ all → new ≡ old ++ row_bytes types r → new ++ rows_bytes types (drop (i + 1) rows) ≡ all
row_written types rows i r old new all within is so_far wrote =
    let left : drop i rows ≡ r ∷ drop (i + 1) rows = drop_more rows i r within ∙ ap (λ (x : SpillRow). x ∷ drop (i + 1) rows) (sym is) in
    written old new (row_bytes types r) (rows_bytes types (drop (i + 1) rows)) (rows_bytes types (drop i rows)) all
    (ap (rows_bytes types) left) so_far wrote

-- the rows of one payload more are written, and those of one fewer are left
pub payload_written : (types : List DataType) (payloads : List Payload) (i : ℕ) (p : Payload) (old new all : List ℕ) → i < length payloads → p ≡ get_or payloads i p
    → old ++ rows_bytes types (joined_rows (drop i payloads)) ≡ all → new ≡ old ++ rows_bytes types p.rows
    → new ++ rows_bytes types (joined_rows (drop (i + 1) payloads)) ≡ all
payload_written types payloads i p old new all within is so_far wrote =
    let left : drop i payloads ≡ p ∷ drop (i + 1) payloads = drop_more payloads i p within ∙ ap (λ (x : Payload). x ∷ drop (i + 1) payloads) (sym is) in
    written old new (rows_bytes types p.rows) (rows_bytes types (joined_rows (drop (i + 1) payloads))) (rows_bytes types (joined_rows (drop i payloads))) all
    (ap (λ (ps : List Payload). rows_bytes types (joined_rows ps)) left ∙ rows_bytes-append types p.rows (joined_rows (drop (i + 1) payloads))) so_far wrote
