-- Rows are given one by one, out of bytes that are those of rows.
use Rattle.std.proofs.Common.{◌≡◌, ◌≢◌, ◌∙◌, ◌<◌, ◌+◌, ◌^◌, ◌++◌, ℕ, zero, suc, List, ◌∷◌, length, length-append, arith, take, drop, ap, sym, subst, refl, append_assoc}
use Rattle.std.specs.Prelude.{All}
use Rattle.std.specs.Int.{bytes_high_first}
use Rattle.std.proofs.lemmas.List.{drop_at, take_at}
use Rattle.std.proofs.lemmas.List.Elements.{All-head, All-tail}
use Rattle.pipe_columns.specs.declared.any_value.AnyValue.{AnyValue}
use Rattle.pipe_columns.specs.declared.data_type.DataType.{DataType}
use Rattle.pipe_columns.specs.declared.place.Place.{Place}
use Rattle.pipe_columns.specs.Key.{code}
use Rattle.pipe_spill.specs.FrameBytes.{row_bytes, rows_bytes}
use Rattle.pipe_spill.specs.KeyTypes.{IsTuple}
use Rattle.pipe_spill.specs.Reading.{BeginsNoTuple}
use Rattle.pipe_spill.specs.declared.spill_row.SpillRow.{SpillRow}
use Rattle.pipe_spill.proofs.RowOnce.{eight_once}
use Rattle.pipe_waiting.specs.PlainValues.{BeginsSome}
use Rattle.pipe_waiting.specs.ReadRows.{read_row, read_rows}
use Rattle.pipe_waiting.specs.Waiting.{CanWait, HoldRows, IsNext}
use Rattle.pipe_waiting.proofs.ReadBack.{row_back}

-- a place, a key and what stands behind them
abbrev pub headed : ℕ → ℕ → List ℕ → List ℕ → List ℕ
headed chunk row key rest = bytes_high_first 4 chunk ++ bytes_high_first 4 row ++ bytes_high_first 8 (length key) ++ key ++ rest

-- a row's bytes begin so
pub row_headed : (types : List DataType) (r : SpillRow) (rest : List ℕ) → row_bytes types r ++ rest ≡ headed r.place.chunk r.place.row r.key (code types r.values ++ rest)
row_headed types r rest =
    ap (λ (l : List ℕ). bytes_high_first 4 r.place.chunk ++ bytes_high_first 4 r.place.row ++ bytes_high_first 8 (length r.key) ++ l)
    (append_assoc r.key (code types r.values) rest)

-- the bytes of a row after its place and the length of its key
module _ (chunk number size : ℕ) (tail bytes : List ℕ) (short : size < 2 ^ 64) (room : length tail < 2 ^ 64)
    (head : bytes_high_first 4 chunk ++ bytes_high_first 4 number ++ bytes_high_first 8 size ++ tail ≡ bytes) where
  -- a row that the bytes begin with has the key and the inputs that stand there
  behind_head : (types : List DataType) (r : SpillRow) (rest : List ℕ) → row_bytes types r ++ rest ≡ bytes → (length r.key ≡ size) × (r.key ++ (code types r.values ++ rest) ≡ tail)
  behind_head types r rest e =
      let same = sym (row_headed types r rest) ∙ e ∙ sym head in
      let body : r.key ++ (code types r.values ++ rest) ≡ tail = ap (λ (l : List ℕ). drop 16 l) same in
      let key_short : length r.key < 2 ^ 64 = omega (arith, room, length-append r.key (code types r.values ++ rest), ap length body) in
      (eight_once (length r.key) size (r.key ++ (code types r.values ++ rest)) tail key_short short (ap (λ (l : List ℕ). drop 8 l) same), body)

  -- a key that is longer than the bytes that are left
  pub too_long : length tail < size → (types : List DataType) (r : SpillRow) (rest : List ℕ) → row_bytes types r ++ rest ≢ bytes
  too_long h types r rest e =
      let behind = behind_head types r rest e in
      omega (arith, h, behind.0, length-append r.key (code types r.values ++ rest), ap length behind.1)

-- fewer than 16 bytes begin with no row
pub too_few : (bytes : List ℕ) → length bytes < 16 → (types : List DataType) (r : SpillRow) (rest : List ℕ) → row_bytes types r ++ rest ≢ bytes
too_few bytes h types r rest e = omega (arith, h, ap length (sym (row_headed types r rest) ∙ e))

-- the key and the inputs of a row are those that stand there
pub same_parts : (types : List DataType) (chunk number : ℕ) (key inputs bytes : List ℕ) (r : SpillRow) (rest : List ℕ) → length bytes < 2 ^ 64 → headed chunk number key inputs ≡ bytes
    → row_bytes types r ++ rest ≡ bytes → (r.key ≡ key) × (code types r.values ++ rest ≡ inputs)
same_parts types chunk number key inputs bytes r rest room head e =
    let few : length (key ++ inputs) < 2 ^ 64 = omega (arith, room, ap length head) in
    let short : length key < 2 ^ 64 = omega (arith, few, length-append key inputs) in
    let behind = behind_head chunk number (length key) (key ++ inputs) bytes short few head types r rest e in (
      sym (take_at r.key (code types r.values ++ rest) (length key) behind.0) ∙ ap (take (length key)) behind.1 ∙ take_at key inputs (length key) refl,
      sym (drop_at r.key (code types r.values ++ rest) (length key) behind.0) ∙ ap (drop (length key)) behind.1 ∙ drop_at key inputs (length key) refl,
    )

-- of bytes of so many rows some row is the first
pub first_row : (types : List DataType) (n : ℕ) (bytes : List ℕ) → HoldRows types n bytes → n ≢ 0 → (r : SpillRow) × (rest : List ℕ) × CanWait types r × (row_bytes types r ++ rest ≡ bytes)
first_row types zero bytes h some = absurd (some refl)
first_row types (suc n) bytes h some =
    let r = (read_row types bytes).0 in
    let rows = read_rows types n (read_row types bytes).1 in
    (r, rows_bytes types rows, All-head (CanWait types) r rows h.can, h.whole)

-- so the bytes begin with a place, a key and inputs
pub is_headed : (types : List DataType) (n : ℕ) (bytes : List ℕ) → HoldRows types n bytes → n ≢ 0
    → ((types : List DataType) (r : SpillRow) (rest : List ℕ) → row_bytes types r ++ rest ≢ bytes) → ⊥
is_headed types n bytes h some none =
    let first = first_row types n bytes h some in
    none types first.0 first.1 first.3

-- and the inputs begin with a tuple of the types
pub begins_inputs : (types : List DataType) (n : ℕ) (bytes : List ℕ) (chunk number : ℕ) (key inputs : List ℕ) → HoldRows types n bytes → n ≢ 0 → length bytes < 2 ^ 64
    → headed chunk number key inputs ≡ bytes → BeginsSome types inputs
begins_inputs types n bytes chunk number key inputs h some room head =
    let first = first_row types n bytes h some in
    (first.1, record { values = first.0.values; tuple = first.2.inputs; front = (same_parts types chunk number key inputs bytes first.0 first.1 room head first.3).1 })

-- which bytes that begin with none do not
pub has_inputs : (types : List DataType) (n : ℕ) (bytes : List ℕ) (chunk number : ℕ) (key inputs : List ℕ) → HoldRows types n bytes → n ≢ 0 → length bytes < 2 ^ 64
    → headed chunk number key inputs ≡ bytes → BeginsNoTuple types inputs → ⊥
has_inputs types n bytes chunk number key inputs h some room head none =
    let begins = begins_inputs types n bytes chunk number key inputs h some room head in
    none begins.1.values begins.0 begins.1.tuple begins.1.front

-- what stands behind a front
behind_front : (front a b : List ℕ) → front ++ a ≡ front ++ b → a ≡ b
behind_front front a b e = sym (drop_at front a (length front) refl) ∙ ap (drop (length front)) e ∙ drop_at front b (length front) refl

-- the bytes begin with a row, and the others are behind it
next_row : (types : List DataType) (m : ℕ) (bytes after : List ℕ) (r : SpillRow) → HoldRows types (suc m) bytes → CanWait types r → row_bytes types r ++ after ≡ bytes
    → IsNext types r (record { count = suc m; bytes = bytes }) (record { count = m; bytes = after })
next_row types m bytes after r h can e =
    let read : read_row types bytes ≡ (r, after) = ap (read_row types) (sym e) ∙ row_back types r after can in
    let rows = read_rows types m after in
    let is : read_rows types (suc m) bytes ≡ r ∷ rows = ap (λ (p : SpillRow × List ℕ). p.0 ∷ read_rows types m p.1) read in
    let whole : row_bytes types r ++ rows_bytes types rows ≡ bytes = subst (λ (xs : List SpillRow). rows_bytes types xs ≡ bytes) is h.whole in
    record {
      count = omega arith;
      rows = is;
      bytes = sym e;
      can = can;
      left = record {
        can = All-tail (CanWait types) r rows (subst (λ (xs : List SpillRow). All (CanWait types) xs) is h.can);
        whole = behind_front (row_bytes types r) (rows_bytes types rows) after (whole ∙ sym e);
      };
    }

-- the next row is what was read
pub next_is : (types : List DataType) (n m : ℕ) (bytes after : List ℕ) (place : Place) (key inputs : List ℕ) (values : List AnyValue) → HoldRows types n bytes → n ≡ m + 1
    → place.chunk < 2 ^ 32 → place.row < 2 ^ 32 → length key < 2 ^ 64 → headed place.chunk place.row key inputs ≡ bytes → IsTuple types values → code types values ++ after ≡ inputs
    → IsNext types (record { place = place; key = key; values = values }) (record { count = n; bytes = bytes }) (record { count = m; bytes = after })
next_is types n m bytes after place key inputs values h count chunk row size head tuple behind =
    let r : SpillRow = record { place = place; key = key; values = values } in
    let one : n ≡ suc m = omega (arith, count) in
    let can : CanWait types r = record { chunk = chunk; row = row; key = size; inputs = tuple } in
    let whole : row_bytes types r ++ after ≡ bytes = row_headed types r after ∙ ap (headed place.chunk place.row key) behind ∙ head in
    subst (λ (k : ℕ). IsNext types r (record { count = k; bytes = bytes }) (record { count = m; bytes = after })) (sym one)
    (next_row types m bytes after r (subst (λ (k : ℕ). HoldRows types k bytes) one h) can whole)
