-- The bytes of rows stand for one list of rows alone.
use Rattle.std.proofs.Common.{◌≡◌, ◌++◌, ◌+◌, ◌*◌, ◌^◌, ◌<◌, ◌≤◌, ℕ, pos, true, List, [], ◌∷◌, refl, sym, ◌∙◌, ap, subst, length, take, drop, append_assoc, length-append, take-append-drop, length-take-le, arith}
use Rattle.std.specs.Int.{bytes_high_first}
use Rattle.std.proofs.lemmas.Bool.Decides.{nat_tests}
use Rattle.std.proofs.lemmas.List.{drop_at, take_at}
use Rattle.std.proofs.lemmas.List.Elements.{All-head, All-tail}
use Rattle.pipe_columns.specs.declared.data_type.DataType.{DataType}
use Rattle.pipe_columns.specs.declared.data_type.DataType.TheVariants as dt
use Rattle.pipe_columns.specs.declared.any_value.AnyValue.{AnyValue}
use Rattle.pipe_columns.specs.declared.any_value.AnyValue.TheVariants as av
use Rattle.pipe_columns.specs.AnyValue.{is_unsigned}
use Rattle.pipe_columns.specs.Key.{code}
use Rattle.pipe_spill.specs.FrameBytes.{row_bytes, rows_bytes}
use Rattle.pipe_spill.specs.Reading.{BeginsNoRow, BeginsNoTuple}
use Rattle.pipe_spill.specs.SpillRow.{AreRows, IsKey, IsRow}
use Rattle.pipe_spill.specs.declared.spill_row.SpillRow.{SpillRow}
use Rattle.pipe_spill.proofs.CodeOrder.{tuple_once, value_once}

-- one integer is one number
same_number : (m n : ℕ) → av.Int (pos m) ≡ av.Int (pos n) → m ≡ n
same_number m n e = cc

-- four bytes are those of one number
pub four_once : (m n : ℕ) (r s : List ℕ) → m < 2 ^ 32 → n < 2 ^ 32 → bytes_high_first 4 m ++ r ≡ bytes_high_first 4 n ++ s → m ≡ n
four_once m n r s p q e =
    let f : is_unsigned 32 (pos m) ≡ true = grind (arith, nat_tests) in
    let g : is_unsigned 32 (pos n) ≡ true = grind (arith, nat_tests) in
    same_number m n (value_once dt.UInt32 (av.Int (pos m)) (av.Int (pos n)) r s f g (ap (λ (l : List ℕ). 1 ∷ l) e)).0

-- eight bytes are those of one number
pub eight_once : (m n : ℕ) (r s : List ℕ) → m < 2 ^ 64 → n < 2 ^ 64 → bytes_high_first 8 m ++ r ≡ bytes_high_first 8 n ++ s → m ≡ n
eight_once m n r s p q e =
    let f : is_unsigned 64 (pos m) ≡ true = grind (arith, nat_tests) in
    let g : is_unsigned 64 (pos n) ≡ true = grind (arith, nat_tests) in
    same_number m n (value_once dt.UInt64 (av.Int (pos m)) (av.Int (pos n)) r s f g (ap (λ (l : List ℕ). 1 ∷ l) e)).0

-- a row's bytes, and others behind them, after the place and the length of the key
pub after_head : (types : List DataType) (a : SpillRow) (r rest : List ℕ) → drop 16 (row_bytes types a ++ r) ≡ rest → a.key ++ (code types a.values ++ r) ≡ rest
after_head types a r rest e = sym (append_assoc a.key (code types a.values) r) ∙ e

-- bytes begin with one key alone
same_key : (types : List DataType) (a b r s : List ℕ) → IsKey types a → IsKey types b → a ++ r ≡ b ++ s → (a ≡ b) × (r ≡ s)
same_key types a b r s p q e =
    let once = tuple_once types p.0 q.0 r s p.1.of_types q.1.of_types (ap (λ (l : List ℕ). l ++ r) p.2 ∙ e ∙ sym (ap (λ (l : List ℕ). l ++ s) q.2)) in
    (sym p.2 ∙ ap (code types) once.0 ∙ q.2, once.1)

-- rows are one where their parts are
same_row : (a b : SpillRow) → a.place.chunk ≡ b.place.chunk → a.place.row ≡ b.place.row → a.key ≡ b.key → a.values ≡ b.values → a ≡ b
same_row a b p q r s =
    let build : ℕ → ℕ → List ℕ → List AnyValue → SpillRow =
    λ c n k v. record { place = record { chunk = c; row = n }; key = k; values = v } in
    ap (λ (c : ℕ). build c a.place.row a.key a.values) p
    ∙ ap (λ (n : ℕ). build b.place.chunk n a.key a.values) q
    ∙ ap (λ (k : List ℕ). build b.place.chunk b.place.row k a.values) r
    ∙ ap (λ (v : List AnyValue). build b.place.chunk b.place.row b.key v) s

-- bytes begin with one row alone
pub row_once : (key_types types : List DataType) (a b : SpillRow) (r s : List ℕ) → IsRow key_types types a → IsRow key_types types b
    → row_bytes types a ++ r ≡ row_bytes types b ++ s → (a ≡ b) × (r ≡ s)
row_once key_types types a b r s p q e =
    let keys = same_key key_types a.key b.key (code types a.values ++ r) (code types b.values ++ s) p.key q.key
    (after_head types a r (b.key ++ (code types b.values ++ s)) (ap (λ (l : List ℕ). drop 16 l) e ∙ append_assoc b.key (code types b.values) s)) in
    let inputs = tuple_once types a.values b.values r s p.inputs.of_types q.inputs.of_types keys.1 in
    let chunk = four_once a.place.chunk b.place.chunk (drop 4 (row_bytes types a ++ r)) (drop 4 (row_bytes types b ++ s)) p.chunk q.chunk e in
    let number = four_once a.place.row b.place.row (drop 8 (row_bytes types a ++ r)) (drop 8 (row_bytes types b ++ s)) p.row q.row (ap (λ (l : List ℕ). drop 4 l) e) in
    (same_row a b chunk number keys.0 inputs.0, inputs.1)

-- as many rows are the same where their bytes are
pub rows_once : (key_types types : List DataType) (xs ys : List SpillRow) (r s : List ℕ) → AreRows key_types types xs → AreRows key_types types ys
    → length xs ≡ length ys → rows_bytes types xs ++ r ≡ rows_bytes types ys ++ s → (xs ≡ ys) × (r ≡ s)
rows_once key_types types [] [] r s p q n e = (refl, e)
rows_once key_types types [] (y ∷ ys) r s p q n e = absurd (omega (arith, n))
rows_once key_types types (x ∷ xs) [] r s p q n e = absurd (omega (arith, n))
rows_once key_types types (x ∷ xs) (y ∷ ys) r s p q n e =
    let row : SpillRow → Type 0 = IsRow key_types types in
    let first = row_once key_types types x y (rows_bytes types xs ++ r) (rows_bytes types ys ++ s) (All-head row x xs p) (All-head row y ys q)
    (sym (append_assoc (row_bytes types x) (rows_bytes types xs) r) ∙ e ∙ append_assoc (row_bytes types y) (rows_bytes types ys) s) in
    let others = rows_once key_types types xs ys r s (All-tail row x xs p) (All-tail row y ys q) (omega (arith, n)) first.1 in
    (ap (λ (z : SpillRow). z ∷ xs) first.0 ∙ ap (λ (zs : List SpillRow). y ∷ zs) others.0, others.1)

-- more rows than were read begin with one more
pub next_row : (key_types types : List DataType) (xs ys : List SpillRow) (rest : List ℕ) → AreRows key_types types xs → AreRows key_types types ys
    → length xs < length ys → rows_bytes types ys ≡ rows_bytes types xs ++ rest → BeginsNoRow key_types types rest → ⊥
next_row key_types types xs [] rest p q n e none = absurd (omega (arith, n))
next_row key_types types [] (y ∷ ys) rest p q n e none = none y (rows_bytes types ys) (All-head (IsRow key_types types) y ys q) e
next_row key_types types (x ∷ xs) (y ∷ ys) rest p q n e none =
    let row : SpillRow → Type 0 = IsRow key_types types in
    let first = row_once key_types types y x (rows_bytes types ys) (rows_bytes types xs ++ rest) (All-head row y ys q) (All-head row x xs p)
    (e ∙ append_assoc (row_bytes types x) (rows_bytes types xs) rest) in
    next_row key_types types xs ys rest (All-tail row x xs p) (All-tail row y ys q) (omega (arith, n)) first.1 none

-- a row takes 16 bytes at least
pub row_least : (types : List DataType) (r : SpillRow) (rest : List ℕ) → 16 + length r.key ≤ length (row_bytes types r ++ rest)
row_least types r rest = omega (arith, length-append (r.key ++ code types r.values) rest, length-append r.key (code types r.values))

-- rows take 16 bytes each at least
pub rows_least : (types : List DataType) (rows : List SpillRow) → length rows * 16 ≤ length (rows_bytes types rows)
rows_least types [] = omega arith
rows_least types (r ∷ rows) = omega (arith, rows_least types rows, length-append (row_bytes types r) (rows_bytes types rows), row_least types r [], length-append (row_bytes types r) [])

-- the bytes of a row after its place and the length of its key
module _ (key_types types : List DataType) (chunk number size : ℕ) (tail bytes : List ℕ) (short : size < 2 ^ 64) (room : length tail < 2 ^ 64)
    (head : bytes_high_first 4 chunk ++ bytes_high_first 4 number ++ bytes_high_first 8 size ++ tail ≡ bytes) where
  -- a row that the bytes begin with has the key and the inputs that stand there
  behind_head : (r : SpillRow) (rest : List ℕ) → row_bytes types r ++ rest ≡ bytes → (length r.key ≡ size) × (r.key ++ (code types r.values ++ rest) ≡ tail)
  behind_head r rest e =
      let same = e ∙ sym head in
      let body = after_head types r rest tail (ap (λ (l : List ℕ). drop 16 l) same) in
      let key_short : length r.key < 2 ^ 64 = omega (arith, room, length-append r.key (code types r.values ++ rest), ap length body) in
      (eight_once (length r.key) size (drop 16 (row_bytes types r ++ rest)) tail key_short short (ap (λ (l : List ℕ). drop 8 l) same), body)

  -- a key that is longer than the bytes that are left
  pub key_too_long : length tail < size → BeginsNoRow key_types types bytes
  key_too_long h r rest p e =
      let behind = behind_head r rest e in
      omega (arith, h, behind.0, length-append r.key (code types r.values ++ rest), ap length behind.1)

  -- bytes where a key should stand are none
  pub wrong_key : (IsKey key_types (take size tail) → ⊥) → BeginsNoRow key_types types bytes
  wrong_key n r rest p e =
      let behind = behind_head r rest e in
      let key : take size tail ≡ r.key = ap (λ (l : List ℕ). take size l) (sym behind.1) ∙ take_at r.key (code types r.values ++ rest) size behind.0 in
      n (subst (IsKey key_types) (sym key) p.key)

  -- no inputs begin behind the key
  pub wrong_inputs : BeginsNoTuple types (drop size tail) → BeginsNoRow key_types types bytes
  wrong_inputs n r rest p e =
      let behind = behind_head r rest e in
      let inputs : drop size tail ≡ code types r.values ++ rest = ap (λ (l : List ℕ). drop size l) (sym behind.1) ∙ drop_at r.key (code types r.values ++ rest) size behind.0 in
      n r.values rest p.inputs (sym inputs)

  -- the row of what stands there
  pub row_whole : size ≤ length tail → (values : List AnyValue) (rest : List ℕ) → code types values ++ rest ≡ drop size tail
      → row_bytes types (record { place = record { chunk = chunk; row = number }; key = take size tail; values = values }) ++ rest ≡ bytes
  row_whole h values rest e =
      let with_head = λ (n : ℕ) (l : List ℕ). bytes_high_first 4 chunk ++ bytes_high_first 4 number ++ bytes_high_first 8 n ++ l in
      let body : (take size tail ++ code types values) ++ rest ≡ tail =
      append_assoc (take size tail) (code types values) rest ∙ ap (λ (l : List ℕ). take size tail ++ l) e ∙ take-append-drop size tail in
      let key : length (take size tail) ≡ size = length-take-le size tail h in
      ap (λ (n : ℕ). with_head n ((take size tail ++ code types values) ++ rest)) key ∙ ap (with_head size) body ∙ head

-- fewer than 16 bytes begin with no row
pub no_head : (key_types types : List DataType) (bytes : List ℕ) → length bytes < 16 → BeginsNoRow key_types types bytes
no_head key_types types bytes h r rest p e = omega (arith, h, row_least types r rest, ap length e)
