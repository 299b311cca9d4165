-- A frame is read row by row.
use Rattle.std.proofs.Common.{◌≡◌, ◌≢◌, ◌++◌, ◌+◌, ◌/◌, ◌^◌, ◌<◌, ℕ, List, [], ◌∷◌, refl, sym, ◌∙◌, ap, length, drop, append_assoc, length-append, arith}
use Rattle.std.specs.Int.{bytes_high_first}
use Rattle.std.proofs.lemmas.List.{append-nil}
use Rattle.std.proofs.lemmas.List.Elements.{All-nil, All-push}
use Rattle.pipe_columns.specs.declared.data_type.DataType.{DataType}
use Rattle.pipe_spill.specs.FrameBytes.{IsFrameOfNone, frame_bytes, row_bytes, rows_bytes}
use Rattle.pipe_spill.specs.Reading.{BeginsNoRow}
use Rattle.pipe_spill.specs.SpillRow.{AreRows, IsRow}
use Rattle.pipe_spill.specs.declared.spill_row.SpillRow.{SpillRow}
use Rattle.pipe_spill.proofs.RowBytes.{rows_bytes-append}
use Rattle.pipe_spill.proofs.RowOnce.{eight_once, next_row, rows_least, rows_once}

-- i rows were read, and these bytes are left
pub record AreReadTo (key_types types : List DataType) (rows : List SpillRow) (rest all : List ℕ) (i : ℕ) : Type 0 where
  pub are : AreRows key_types types rows
  pub bytes : rows_bytes types rows ++ rest ≡ all
  pub counted : length rows ≡ i

-- before the first row all bytes are left
pub none_read : (key_types types : List DataType) (all : List ℕ) → AreReadTo key_types types [] all all 0
none_read key_types types all = record { are = All-nil (IsRow key_types types); bytes = refl; counted = refl }

-- one more row is read
pub one_read : (key_types types : List DataType) (rows more : List SpillRow) (r : SpillRow) (rest after all : List ℕ) (i : ℕ) → AreReadTo key_types types rows rest all i
    → IsRow key_types types r → row_bytes types r ++ after ≡ rest → more ≡ rows ++ r ∷ [] → AreReadTo key_types types more after all (i + 1)
one_read key_types types rows more r rest after all i h f e is = rw is (record {
  are = All-push (IsRow key_types types) rows r h.are f;
  bytes = ap (λ (l : List ℕ). l ++ after) (rows_bytes-append types rows (r ∷ []) ∙ ap (λ (l : List ℕ). rows_bytes types rows ++ l) (append-nil (row_bytes types r)))
      ∙ append_assoc (rows_bytes types rows) (row_bytes types r) after
      ∙ ap (λ (l : List ℕ). rows_bytes types rows ++ l) e
      ∙ h.bytes;
  counted = omega (arith, h.counted, length-append rows (r ∷ []));
})

module _ (key_types types : List DataType) (count : ℕ) (all bytes : List ℕ) (short : count < 2 ^ 64) (room : length all < 2 ^ 64)
    (head : bytes_high_first 8 count ++ all ≡ bytes) where
  -- rows whose frame the bytes are
  of_frame : (rows : List SpillRow) → frame_bytes types rows ≡ bytes → (length rows ≡ count) × (rows_bytes types rows ≡ all)
  of_frame rows e =
      let same = e ∙ sym head in
      let body : rows_bytes types rows ≡ all = ap (λ (l : List ℕ). drop 8 l) same in
      let small : length rows < 2 ^ 64 = omega (arith, room, rows_least types rows, ap length body) in
      (eight_once (length rows) count (rows_bytes types rows) all small short same, body)

  -- the bytes that are left are too few for the rows
  pub too_few_bytes : length all / 16 < count → IsFrameOfNone key_types types bytes
  too_few_bytes h rows p e =
      let of = of_frame rows e in
      omega (arith, h, of.0, rows_least types rows, ap length of.1)

  -- no row begins where one should
  pub no_next_row : (rows : List SpillRow) (rest : List ℕ) (i : ℕ) → AreReadTo key_types types rows rest all i → i < count
      → BeginsNoRow key_types types rest → IsFrameOfNone key_types types bytes
  no_next_row rows rest i h b n more p e =
      let of = of_frame more e in
      next_row key_types types rows more rest h.are p (omega (arith, h.counted, b, of.0)) (of.1 ∙ sym h.bytes) n

  -- bytes are left behind the last row
  pub bytes_left : (rows : List SpillRow) (rest : List ℕ) → AreReadTo key_types types rows rest all count → rest ≢ [] → IsFrameOfNone key_types types bytes
  bytes_left rows rest h n more p e =
      let of = of_frame more e in
      n (sym (rows_once key_types types more rows [] rest p h.are (omega (arith, h.counted, of.0)) (append-nil (rows_bytes types more) ∙ of.1 ∙ sym h.bytes)).1)

  -- no bytes are left behind the last row
  pub frame_whole : (rows : List SpillRow) (rest : List ℕ) → AreReadTo key_types types rows rest all count → rest ≡ [] → frame_bytes types rows ≡ bytes
  frame_whole rows rest h e =
      ap (λ (n : ℕ). bytes_high_first 8 n ++ rows_bytes types rows) h.counted
      ∙ ap (λ (l : List ℕ). bytes_high_first 8 count ++ l)
      (sym (append-nil (rows_bytes types rows)) ∙ ap (λ (l : List ℕ). rows_bytes types rows ++ l) (sym e) ∙ h.bytes)
      ∙ head

-- fewer than eight bytes are no frame
pub no_count : (key_types types : List DataType) (bytes : List ℕ) → length bytes < 8 → IsFrameOfNone key_types types bytes
no_count key_types types bytes h rows p e = omega (arith, h, ap length e)

-- bytes begin with one frame alone
frame_once : (keys inputs : List DataType) (a b : List SpillRow) (rest : List ℕ) → AreRows keys inputs a → AreRows keys inputs b
    → length a < 2 ^ 64 → length b < 2 ^ 64 → frame_bytes inputs a ++ rest ≡ frame_bytes inputs b → (a ≡ b) × (rest ≡ [])
frame_once keys inputs a b rest p q m n e =
    let count = eight_once (length a) (length b) (rows_bytes inputs a ++ rest) (rows_bytes inputs b) m n e in
    rows_once keys inputs a b rest [] p q count (ap (λ (l : List ℕ). drop 8 l) e ∙ sym (append-nil (rows_bytes inputs b)))

-- no frame is a proper front of another
pub frames_no_front : (keys inputs : List DataType) (a b : List SpillRow) (rest : List ℕ) → AreRows keys inputs a → AreRows keys inputs b
    → length a < 2 ^ 64 → length b < 2 ^ 64 → frame_bytes inputs a ++ rest ≡ frame_bytes inputs b → rest ≡ []
frames_no_front keys inputs a b rest p q m n e = (frame_once keys inputs a b rest p q m n e).1

-- different rows have different frames
pub frames_injective : (keys inputs : List DataType) (a b : List SpillRow) → AreRows keys inputs a → AreRows keys inputs b
    → length a < 2 ^ 64 → length b < 2 ^ 64 → frame_bytes inputs a ≡ frame_bytes inputs b → a ≡ b
frames_injective keys inputs a b p q m n e = (frame_once keys inputs a b [] p q m n (append-nil (frame_bytes inputs a) ∙ e)).0

-- rows that bytes are the frame of are those that were read: there are too few bytes for a number of rows past 64 bits
pub read_back : (keys inputs : List DataType) (read rows : List SpillRow) (bytes : List ℕ) → AreRows keys inputs read → AreRows keys inputs rows
    → length bytes < 2 ^ 64 → frame_bytes inputs read ≡ bytes → frame_bytes inputs rows ≡ bytes → rows ≡ read
read_back keys inputs read rows bytes p q room e f =
    let few : (xs : List SpillRow) → frame_bytes inputs xs ≡ bytes → length xs < 2 ^ 64 =
    λ xs g. omega (arith, room, rows_least inputs xs, ap length g) in
    frames_injective keys inputs rows read q p (few rows f) (few read e) (f ∙ sym e)
