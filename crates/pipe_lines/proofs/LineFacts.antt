-- Lines of rows that are put behind a text, piece by piece.
use Rattle.std.proofs.Common.{◌≡◌, ◌∙◌, ◌+◌, ◌<◌, ◌≤◌, ℕ, List, [], ◌∷◌, ◌++◌, length, take, sym, ap, flat_map, get_or, append_assoc, append-nil, take_all, arith}
use Rattle.std.proofs.lemmas.Grind.{flat_map-append}
use Rattle.std.specs.List.{range_with_len}
use Rattle.std.proofs.lemmas.List.{length-map}
use Rattle.std.proofs.lemmas.List.{take_more}
use Rattle.std.proofs.lemmas.List.FromFn.{get_or-map-range_with_len, length-range_with_len}
use Rattle.pipe_columns.specs.Frame.{FrameData, row_at}
use Rattle.pipe_lines.specs.Rows.{Row, frame_rows}
use Rattle.pipe_lines.specs.Lines.{GoesOn}

module _ (line : Row → List ℕ) (rows : List Row) where
  abbrev lines_to : ℕ → List ℕ
  lines_to n = flat_map line (take n rows)

  -- the first piece
  pub first_piece : (to : ℕ) (old new : List ℕ) → GoesOn line rows 0 to old new → new ≡ old ++ lines_to to
  first_piece to old new g = g [] old (sym (append-nil old))

  -- one more piece
  pub next_piece : (from to : ℕ) (head old new : List ℕ) → old ≡ [] → GoesOn line rows from to old new → (head ++ lines_to from) ++ new ≡ head ++ lines_to to
  next_piece from to head old new none g =
      g (head ++ lines_to from) head (ap (λ t. (head ++ lines_to from) ++ t) none ∙ append-nil (head ++ lines_to from))

  -- at the end all lines are there
  pub all_lines : (n : ℕ) → length rows ≤ n → lines_to n ≡ flat_map line rows
  all_lines n le = ap (flat_map line) (take_all n rows le)

-- a frame has a row for each of its height
pub length-rows : (f : FrameData) → length (frame_rows f) ≡ f.height
length-rows f = length-map (range_with_len 0 f.height) (row_at f.columns) ∙ length-range_with_len 0 f.height

module _ (line : Row → List ℕ) where
  -- no line more
  pub goes_nowhere : (rows : List Row) (from : ℕ) (old : List ℕ) → GoesOn line rows from from old old
  goes_nowhere rows from old sent head e = e

  -- one line more
  pub goes_on : (f : FrameData) (from to : ℕ) (old now : List ℕ) → to < f.height → GoesOn line (frame_rows f) from to old now
      → GoesOn line (frame_rows f) from (to + 1) old (now ++ line (row_at f.columns to))
  goes_on f from to old now within g sent head e =
      let rows = frame_rows f in
      let row = row_at f.columns to in
      let long = length-rows f in
      let at : get_or rows to row ≡ row = get_or-map-range_with_len (row_at f.columns) 0 f.height to to row within (omega arith) in
      let more : take (to + 1) rows ≡ take to rows ++ row ∷ [] = take_more rows to row (omega (arith, long, within)) ∙ ap (λ (r : Row). take to rows ++ r ∷ []) at in
      let last : flat_map line (row ∷ []) ≡ line row = append-nil (line row) in
      sym (append_assoc sent now (line row)) ∙ ap (λ bs. bs ++ line row) (g sent head e) ∙ append_assoc head (flat_map line (take to rows)) (line row)
      ∙ ap (λ bs. head ++ bs) (sym (ap (flat_map line) more ∙ flat_map-append line (take to rows) (row ∷ []) ∙ ap (λ bs. flat_map line (take to rows) ++ bs) last))
