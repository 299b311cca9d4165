-- The rows of chunks, as they are read from lists of values.
use Rattle.std.proofs.Common.{◌≡◌, ◌∙◌, ℕ, ◌+◌, ◌<◌, suc, List, [], ◌∷◌, ◌++◌, length, map, refl, sym, ap, arith}
use Rattle.std.specs.List.{range_with_len}
use Rattle.std.proofs.lemmas.List.{append_assoc, append-nil, length-append}
use Rattle.std.proofs.lemmas.List.FromFn.{length-map-range_with_len, map-range_with_len_more}
use Rattle.std.proofs.lemmas.List.Sums.{fold-append, sum_by-cons}
use Rattle.pipe_columns.specs.declared.data_chunk.DataChunk.{DataChunk}
use Rattle.pipe_columns.specs.Frame.{FrameData}
use Rattle.pipe_columns.specs.Row.{Row}
use Rattle.pipe_model.specs.Query.{QueryTree}
use Rattle.pipe_model.specs.Rows.{chunk_rows, row_of, rows, rows_from, total_height}
use Rattle.test_plain.specs.Running.{Line, Table, with_row, with_rows}

-- ---- one more row, and one more chunk

with_rows-append : (start : Line) (t : Table) (xs ys : List Row) → with_rows start t (xs ++ ys) ≡ with_rows start (with_rows start t xs) ys
with_rows-append start t xs ys = fold-append (λ (u : Table) (r : Row). with_row start u r) t xs ys

-- a table with one more row of a chunk
pub with_rows_more : (q : QueryTree) (start : Line) (t : Table) (i n : ℕ) (frame : FrameData)
    → with_row start (with_rows start t (map (λ m. row_of q i frame m) (range_with_len 0 n))) (row_of q i frame n) ≡ with_rows start t (map (λ m. row_of q i frame m) (range_with_len 0 (n + 1)))
with_rows_more q start t i n frame =
    let f : ℕ → Row = λ m. row_of q i frame m in
    let longer : map f (range_with_len 0 (n + 1)) ≡ map f (range_with_len 0 n) ++ (f n ∷ []) = map-range_with_len_more f 0 n n (omega arith) in
    sym (ap (with_rows start t) longer ∙ with_rows-append start t (map f (range_with_len 0 n)) (f n ∷ []))

rows_from-push : (q : QueryTree) (i : ℕ) (cs : List DataChunk) (c : DataChunk) → rows_from q i (cs ++ (c ∷ [])) ≡ rows_from q i cs ++ chunk_rows q (i + length cs) c.frame
rows_from-push q i [] c = append-nil (chunk_rows q i c.frame) ∙ ap (λ (k : ℕ). chunk_rows q k c.frame) (omega arith)
rows_from-push q i (x ∷ xs) c =
    let rest : rows_from q (i + 1) (xs ++ (c ∷ [])) ≡ rows_from q (i + 1) xs ++ chunk_rows q (i + suc (length xs)) c.frame =
    rows_from-push q (i + 1) xs c ∙ ap (λ (k : ℕ). rows_from q (i + 1) xs ++ chunk_rows q k c.frame) (omega arith) in
    ap (λ (t : List Row). chunk_rows q i x.frame ++ t) rest ∙ sym (append_assoc (chunk_rows q i x.frame) (rows_from q (i + 1) xs) (chunk_rows q (i + suc (length xs)) c.frame))

-- a table with the rows of one more chunk
pub with_chunk_more : (q : QueryTree) (start : Line) (taken : List DataChunk) (c : DataChunk)
    → with_rows start (with_rows start [] (rows taken q)) (chunk_rows q (length taken) c.frame) ≡ with_rows start [] (rows (taken ++ (c ∷ [])) q)
with_chunk_more q start taken c =
    let longer : rows (taken ++ (c ∷ [])) q ≡ rows taken q ++ chunk_rows q (length taken) c.frame =
    rows_from-push q 0 taken c ∙ ap (λ (k : ℕ). rows taken q ++ chunk_rows q k c.frame) (omega arith) in
    sym (ap (with_rows start []) longer ∙ with_rows-append start [] (rows taken q) (chunk_rows q (length taken) c.frame))

-- ---- how many rows

-- each row of each chunk is one
pub length-rows_from : (q : QueryTree) (i : ℕ) (cs : List DataChunk) → length (rows_from q i cs) ≡ total_height cs
length-rows_from q i [] = refl
length-rows_from q i (c ∷ cs) = length-append (chunk_rows q i c.frame) (rows_from q (i + 1) cs)
    ∙ omega (arith, length-map-range_with_len (λ n. row_of q i c.frame n) 0 c.frame.height, length-rows_from q (i + 1) cs, sum_by-cons (λ (x : DataChunk). x.frame.height) c cs)
