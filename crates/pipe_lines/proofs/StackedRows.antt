-- The rows of frames that are joined.
use Rattle.std.proofs.Common.{◌≡◌, ◌∙◌, ◌+◌, ◌<◌, ◌≤◌, ◌==◌, ◌∷◌, ◌++◌, [], ℕ, zero, suc, List, map, length, refl, sym, ap, ap₂, arith, true, append_assoc, append-nil}
use Rattle.std.specs.List.{range_with_len}
use Rattle.std.proofs.lemmas.Bool.{and_parts, eqb-true}
use Rattle.std.proofs.lemmas.List.FromFn.{map-range_with_len_more}
use Rattle.pipe_columns.specs.declared.any_value.AnyValue.{AnyValue}
use Rattle.pipe_columns.specs.Frame.{ColumnData, FrameData, all_have_height, appended_all, fields_of, row_at, stacked, unsorted, value_at}
use Rattle.pipe_lines.specs.Rows.{Row, frame_rows}

-- ---- values of lists that are joined

value-before : (xs ys : List AnyValue) (i : ℕ) → i < length xs → value_at (xs ++ ys) i ≡ value_at xs i
value-before [] ys i lt = absurd (omega arith)
value-before (x ∷ xs) ys zero lt = refl
value-before (x ∷ xs) ys (suc i) lt = value-before xs ys i (omega arith)

value-behind : (xs ys : List AnyValue) (n i : ℕ) → n ≡ length xs + i → value_at (xs ++ ys) n ≡ value_at ys i
value-behind [] ys n i e = let same : n ≡ i = omega (arith, e) in ap (value_at ys) same
value-behind (x ∷ xs) ys zero i e = absurd (omega (arith, e))
value-behind (x ∷ xs) ys (suc n) i e = value-behind xs ys n i (omega (arith, e))

-- ---- rows of columns that are joined

row-before : (h : ℕ) (ds cs : List ColumnData) (i : ℕ) → all_have_height h cs ≡ true → i < h → row_at (map unsorted (appended_all ds cs)) i ≡ row_at cs i
row-before h [] [] i tall lt = refl
row-before h [] (c ∷ cs) i tall lt =
    ap (λ (r : Row). value_at c.values i ∷ r) (row-before h [] cs i (and_parts (length c.values == h) (all_have_height h cs) tall).1 lt)
row-before h (d ∷ ds) [] i tall lt = refl
row-before h (d ∷ ds) (c ∷ cs) i tall lt =
    let both = and_parts (length c.values == h) (all_have_height h cs) tall in
    let long : length c.values ≡ h = eqb-true (length c.values) h both.0 in
    ap₂ (λ (v : AnyValue) (r : Row). v ∷ r) (value-before c.values d.values i (omega (arith, long, lt))) (row-before h ds cs i both.1 lt)

row-behind : (h : ℕ) (ds cs : List ColumnData) (n i : ℕ) → fields_of ds ≡ fields_of cs → all_have_height h cs ≡ true → n ≡ h + i
    → row_at (map unsorted (appended_all ds cs)) n ≡ row_at ds i
row-behind h [] [] n i same tall e = refl
row-behind h [] (c ∷ cs) n i same tall e = cc same
row-behind h (d ∷ ds) [] n i same tall e = cc same
row-behind h (d ∷ ds) (c ∷ cs) n i same tall e =
    let both = and_parts (length c.values == h) (all_have_height h cs) tall in
    let long : length c.values ≡ h = eqb-true (length c.values) h both.0 in
    ap₂ (λ (v : AnyValue) (r : Row). v ∷ r) (value-behind c.values d.values n i (omega (arith, long, e))) (row-behind h ds cs n i (cc same) both.1 e)

module _ (f g : FrameData) (same : fields_of g.columns ≡ fields_of f.columns) (tall : all_have_height f.height f.columns ≡ true) where
  abbrev at : ℕ → Row
  at = row_at (stacked f g).columns

  rows-before : (n : ℕ) → n ≤ f.height → map at (range_with_len 0 n) ≡ map (row_at f.columns) (range_with_len 0 n)
  rows-before zero le = refl
  rows-before (suc n) le =
      let one : suc n ≡ n + 1 = omega arith in
      ap (λ k. map at (range_with_len 0 k)) one ∙ map-range_with_len_more at 0 n n (omega arith)
      ∙ ap₂ (λ (rs : List Row) (r : Row). rs ++ r ∷ []) (rows-before n (omega arith)) (row-before f.height g.columns f.columns n tall (omega arith))
      ∙ sym (ap (λ k. map (row_at f.columns) (range_with_len 0 k)) one ∙ map-range_with_len_more (row_at f.columns) 0 n n (omega arith))

  rows-behind : (n : ℕ) → map at (range_with_len 0 (f.height + n)) ≡ frame_rows f ++ map (row_at g.columns) (range_with_len 0 n)
  rows-behind zero =
      let none : f.height + 0 ≡ f.height = omega arith in
      ap (λ k. map at (range_with_len 0 k)) none ∙ rows-before f.height (omega arith) ∙ sym (append-nil (frame_rows f))
  rows-behind (suc n) =
      let one : suc n ≡ n + 1 = omega arith in
      let more : f.height + suc n ≡ (f.height + n) + 1 = omega arith in
      ap (λ k. map at (range_with_len 0 k)) more ∙ map-range_with_len_more at 0 (f.height + n) (f.height + n) (omega arith)
      ∙ ap₂ (λ (rs : List Row) (r : Row). rs ++ r ∷ []) (rows-behind n) (row-behind f.height g.columns f.columns (f.height + n) n same tall refl)
      ∙ append_assoc (frame_rows f) (map (row_at g.columns) (range_with_len 0 n)) (row_at g.columns n ∷ [])
      ∙ ap (λ (rs : List Row). frame_rows f ++ rs) (sym (ap (λ k. map (row_at g.columns) (range_with_len 0 k)) one ∙ map-range_with_len_more (row_at g.columns) 0 n n (omega arith)))

  -- the rows of a frame below another stand behind its rows
  pub rows_stacked : frame_rows (stacked f g) ≡ frame_rows f ++ frame_rows g
  rows_stacked = rows-behind g.height
