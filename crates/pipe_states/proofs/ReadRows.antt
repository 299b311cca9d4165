-- The rows of a state are read one by one.
use Rattle.std.proofs.Common.{◌≡◌, ◌≢◌, ◌∙◌, ◌+◌, ◌/◌, ◌^◌, ◌<◌, ℕ, List, [], ◌∷◌, ◌++◌, map, length, drop, append_assoc, sym, ap, subst, arith}
use Rattle.std.specs.Prelude.{All}
use Rattle.std.specs.Int.{bytes_high_first}
use Rattle.std.proofs.lemmas.List.{map-append, length-map}
use Rattle.std.proofs.lemmas.List.Elements.{All-cons, All-head, All-nil, All-push, All-tail}
use Rattle.pipe_columns.specs.declared.data_type.DataType.{DataType}
use Rattle.pipe_model.specs.Output.{key_types}
use Rattle.pipe_model.specs.Query.{QueryTree}
use Rattle.pipe_spill.specs.FrameBytes.{frame_bytes, IsFrameOfNone, row_bytes, rows_bytes}
use Rattle.pipe_spill.specs.SpillRow.{AreRows, IsRow}
use Rattle.pipe_spill.specs.declared.spill_row.SpillRow.{SpillRow}
use Rattle.pipe_spill.proofs.FrameOnce.{AreReadTo, bytes_left, frame_whole, no_count, none_read, one_read, too_few_bytes}
use Rattle.pipe_spill.proofs.RowOnce.{eight_once, row_once, rows_least}
use Rattle.pipe_states.specs.Fair.{IsRowOf}
use Rattle.pipe_states.specs.Reading.{BeginsNoStateRow, IsFrameOfNoState, IsTextRow}
use Rattle.pipe_states.specs.StateText.{saved_row, state_types}
use Rattle.pipe_states.specs.declared.state_row.StateRow.{StateRow}

module _ (q : QueryTree) where
  -- what holds of a row of a frame of the query
  abbrev InFrame : SpillRow → Type 0
  InFrame = IsRow (key_types q) (state_types q)

  -- state rows are saved as rows of a frame
  pub saved_text : (rows : List StateRow) → All (IsTextRow q) rows → AreRows (key_types q) (state_types q) (map (saved_row q) rows)
  saved_text [] h = All-nil InFrame
  saved_text (r ∷ rows) h =
      All-cons InFrame (saved_row q r) (map (saved_row q) rows) (All-head (IsTextRow q) r rows h).saved (saved_text rows (All-tail (IsTextRow q) r rows h))

  -- those of a query that are saved so can stand in a text
  pub text_of_saved : (rows : List StateRow) → All (IsRowOf q) rows → AreRows (key_types q) (state_types q) (map (saved_row q) rows) → All (IsTextRow q) rows
  text_of_saved [] h k = All-nil (IsTextRow q)
  text_of_saved (r ∷ rows) h k =
      All-cons (IsTextRow q) r rows
      (record { of_query = All-head (IsRowOf q) r rows h; saved = All-head InFrame (saved_row q r) (map (saved_row q) rows) k })
      (text_of_saved rows (All-tail (IsRowOf q) r rows h) (All-tail InFrame (saved_row q r) (map (saved_row q) rows) k))

  -- i state rows were read, and these bytes are left
  pub record AreRowsTo (rows : List StateRow) (rest all : List ℕ) (i : ℕ) : Type 0 where
    pub text : All (IsTextRow q) rows
    pub read : AreReadTo (key_types q) (state_types q) (map (saved_row q) rows) rest all i

  -- before the first all bytes are left
  pub no_rows_yet : (all : List ℕ) → AreRowsTo [] all all 0
  no_rows_yet all = record { text = All-nil (IsTextRow q); read = none_read (key_types q) (state_types q) all }

  -- one more is read
  pub row_more : (rows more : List StateRow) (r : StateRow) (rest after all : List ℕ) (i : ℕ) → AreRowsTo rows rest all i → IsTextRow q r
      → row_bytes (state_types q) (saved_row q r) ++ after ≡ rest → more ≡ rows ++ r ∷ [] → AreRowsTo more after all (i + 1)
  row_more rows more r rest after all i h is e pushed = record {
    text = subst (All (IsTextRow q)) (sym pushed) (All-push (IsTextRow q) rows r h.text is);
    read = one_read (key_types q) (state_types q) (map (saved_row q) rows) (map (saved_row q) more) (saved_row q r) rest after all i h.read is.saved e
        (ap (map (saved_row q)) pushed ∙ map-append (saved_row q) rows (r ∷ []));
  }

  -- more rows than were read begin with one more
  next_state_row : (xs : List SpillRow) (ys : List StateRow) (rest : List ℕ) → AreRows (key_types q) (state_types q) xs → All (IsTextRow q) ys → length xs < length ys
      → rows_bytes (state_types q) (map (saved_row q) ys) ≡ rows_bytes (state_types q) xs ++ rest → BeginsNoStateRow q rest → ⊥
  next_state_row xs [] rest p h n e none = absurd (omega (arith, n))
  next_state_row [] (y ∷ ys) rest p h n e none = none y (rows_bytes (state_types q) (map (saved_row q) ys)) (All-head (IsTextRow q) y ys h) e
  next_state_row (x ∷ xs) (y ∷ ys) rest p h n e none =
      let types : List DataType = state_types q in
      let first = row_once (key_types q) types (saved_row q y) x (rows_bytes types (map (saved_row q) ys)) (rows_bytes types xs ++ rest) (All-head (IsTextRow q) y ys h).saved (All-head InFrame x xs p)
      (e ∙ append_assoc (row_bytes types x) (rows_bytes types xs) rest) in
      next_state_row xs ys rest (All-tail InFrame x xs p) (All-tail (IsTextRow q) y ys h) (omega (arith, n)) first.1 none

  -- bytes of no rows are those of no state rows
  no_state : (bytes : List ℕ) → IsFrameOfNone (key_types q) (state_types q) bytes → IsFrameOfNoState q bytes
  no_state bytes none rows h e = none (map (saved_row q) rows) (saved_text rows h) e

  -- fewer than eight bytes
  pub no_number : (bytes : List ℕ) → length bytes < 8 → IsFrameOfNoState q bytes
  no_number bytes h = no_state bytes (no_count (key_types q) (state_types q) bytes h)

  -- a number of rows, and bytes behind it
  module _ (count : ℕ) (all bytes : List ℕ) (short : count < 2 ^ 64) (room : length all < 2 ^ 64) (head : bytes_high_first 8 count ++ all ≡ bytes) where
    -- too few bytes
    pub too_few : length all / 16 < count → IsFrameOfNoState q bytes
    too_few h = no_state bytes (too_few_bytes (key_types q) (state_types q) count all bytes short room head h)

    -- no row begins where one should
    pub no_next : (rows : List StateRow) (rest : List ℕ) (i : ℕ) → AreRowsTo rows rest all i → i < count → BeginsNoStateRow q rest → IsFrameOfNoState q bytes
    no_next rows rest i h b none more p e =
        let types : List DataType = state_types q in
        let saved : List SpillRow = map (saved_row q) more in
        let same = e ∙ sym head in
        let body : rows_bytes types saved ≡ all = ap (λ (l : List ℕ). drop 8 l) same in
        let small : length saved < 2 ^ 64 = omega (arith, room, rows_least types saved, ap length body) in
        let number : length saved ≡ count = eight_once (length saved) count (rows_bytes types saved) all small short same in
        next_state_row (map (saved_row q) rows) more rest h.read.are p (omega (arith, h.read.counted, b, number, length-map more (saved_row q))) (body ∙ sym h.read.bytes) none

    -- bytes are left behind the last row
    pub some_left : (rows : List StateRow) (rest : List ℕ) → AreRowsTo rows rest all count → rest ≢ [] → IsFrameOfNoState q bytes
    some_left rows rest h n = no_state bytes (bytes_left (key_types q) (state_types q) count all bytes short room head (map (saved_row q) rows) rest h.read n)

    -- none are
    pub all_read : (rows : List StateRow) (rest : List ℕ) → AreRowsTo rows rest all count → rest ≡ [] → frame_bytes (state_types q) (map (saved_row q) rows) ≡ bytes
    all_read rows rest h e = frame_whole (key_types q) (state_types q) count all bytes short room head (map (saved_row q) rows) rest h.read e
