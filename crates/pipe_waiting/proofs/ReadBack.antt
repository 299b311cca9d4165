-- What is read from the bytes of rows is the rows.
use Rattle.std.proofs.Common.{◌≡◌, ◌++◌, ◌+◌, ◌-◌, ◌*◌, ◌^◌, ◌%◌, ◌<◌, ◌≤◌, ℕ, ℤ, pos, negsuc, ◌+ℤ◌, ◌-ℤ◌, zero, suc, Bool, true, false, List, [], ◌∷◌, refl, sym, ◌∙◌, ap, subst, length, length-append, take, drop, append_assoc, arith, Result, Ok, Err, OnOk, is_ok, if◌then◌else◌}
use Rattle.std.specs.Prelude.{All, fold}
use Rattle.std.specs.Int.{byte_at, bytes_high_first}
use Rattle.std.proofs.Math.Arith.{mod-mul}
use Rattle.std.proofs.Math.Nat.{mod-eq_of_lt, pow-suc, pow-succ'}
use Rattle.std.proofs.lemmas.Bool.Decides.{nat_tests}
use Rattle.std.proofs.lemmas.Int.{ints}
use Rattle.std.proofs.lemmas.List.{append-nil, drop_at, take_at}
use Rattle.std.proofs.lemmas.List.Elements.{All-head, All-tail, All-nil, All-append, All-cons}
use Rattle.pipe_columns.specs.declared.data_type.DataType.{DataType}
use Rattle.pipe_columns.specs.declared.data_type.DataType.TheVariants as dt
use Rattle.pipe_columns.specs.declared.any_value.AnyValue.{AnyValue}
use Rattle.pipe_columns.specs.declared.any_value.AnyValue.TheVariants as av
use Rattle.pipe_columns.specs.AnyValue.{fits, fits_number, is_signed, is_unsigned}
use Rattle.pipe_columns.specs.DataType.{is_boolean, is_string}
use Rattle.pipe_columns.specs.Key.{code, number_code, text_code, unsigned_code, value_code}
use Rattle.pipe_spill.specs.FrameBytes.{frame_bytes, row_bytes, rows_bytes}
use Rattle.pipe_spill.specs.KeyTypes.{AreOfTypes, IsTuple}
use Rattle.pipe_spill.specs.SpillRow.{AreRows, IsRow}
use Rattle.pipe_spill.specs.declared.spill_row.SpillRow.{SpillRow}
use Rattle.pipe_spill.proofs.ByteOrder.{byte_at-is, length-bytes}
use Rattle.pipe_spill.proofs.CodeOrder.{text_code-more}
use Rattle.pipe_spill.proofs.RowBytes.{rows_bytes-append}
use Rattle.pipe_spill.proofs.RowOnce.{row_least}
use Rattle.pipe_waiting.specs.ReadRows.{number_of, put_before, read_body, read_parts, read_rows, read_row, read_signed, read_text, read_unsigned, read_value, read_values, value_before}
use Rattle.pipe_waiting.specs.Waiting.{AreWaiting, CanWait, HasPushed, HoldRows, Waiting, waiting_rows}

-- ---- numbers

-- a power of 256 is no 0
pow_256 : (k : ℕ) → 0 < 256 ^ k
pow_256 zero = omega arith
pow_256 (suc k) = rw pow-suc (omega (arith, pow_256 k))

-- the number that the last bytes are
byte_and_rest : (k n : ℕ) → n % 256 ^ suc k ≡ byte_at k n * 256 ^ k + n % 256 ^ k
byte_and_rest k n = rw (pow-succ', byte_at-is) (mod-mul n (omega arith) (pow_256 k))

-- the number of more bytes stands behind what was read before them
number_from : (k n start : ℕ) → fold (λ m b. m * 256 + b) start (bytes_high_first k n) ≡ start * 256 ^ k + n % 256 ^ k
number_from zero n start = omega arith
number_from (suc k) n start =
    number_from k n (start * 256 + byte_at k n) ∙ sym (ap (λ (m : ℕ). start * 256 ^ suc k + m) (byte_and_rest k n) ∙ rw pow-suc (omega arith))

-- the number of the bytes of a number is that number
pub number_back : (k n : ℕ) → n < 256 ^ k → number_of (bytes_high_first k n) ≡ n
number_back k n h = number_from k n 0 ∙ omega (arith, mod-eq_of_lt h)

-- the number in front of other bytes
front_back : (k n : ℕ) (rest : List ℕ) → n < 256 ^ k → number_of (take k (bytes_high_first k n ++ rest)) ≡ n
front_back k n rest h = ap number_of (take_at (bytes_high_first k n) rest k (length-bytes k n)) ∙ number_back k n h

-- the bytes behind a number
behind_back : (k n : ℕ) (rest : List ℕ) → drop k (bytes_high_first k n ++ rest) ≡ rest
behind_back k n rest = drop_at (bytes_high_first k n) rest k (length-bytes k n)

-- two parts of a pair
pair : {A B : Type 0} (a x : A) (b y : B) → a ≡ x → b ≡ y → ◌≡◌ {A = A × B} (a, b) (x, y)
pair a x b y p q = λ i. (p i, q i)

-- an unsigned number is read back
unsigned_back : (k b : ℕ) → 2 ^ b ≡ 256 ^ k → (z : ℤ) (rest : List ℕ) → is_unsigned b z ≡ true → read_unsigned k (unsigned_code k z ++ rest) ≡ (av.Int z, rest)
unsigned_back k b e (pos n) rest h =
    let fits : n < 256 ^ k = grind (arith, nat_tests) in
    pair (av.Int (pos (number_of (take k (bytes_high_first k n ++ rest))))) (av.Int (pos n)) (drop k (bytes_high_first k n ++ rest)) rest
    (ap (λ (m : ℕ). av.Int (pos m)) (front_back k n rest fits)) (behind_back k n rest)
unsigned_back k b e (negsuc n) rest h = absurd cc

-- a number counted from the least one
abbrev pub counted : ℕ → ℤ → ℕ
counted b (pos n) = n + 2 ^ b
counted b (negsuc n) = 2 ^ b - suc n

-- it is the number from the least one on
pub counted-is : (b : ℕ) (z : ℤ) → is_signed b z ≡ true → z +ℤ pos (2 ^ b) ≡ pos (counted b z)
counted-is b (pos n) h = refl
counted-is b (negsuc n) h = grind (arith, nat_tests)

-- it fits the type of as many bits
counted-below : (b : ℕ) (z : ℤ) → is_signed b z ≡ true → counted b z < 2 ^ b + 2 ^ b
counted-below b (pos n) h = grind (arith, nat_tests)
counted-below b (negsuc n) h = grind (arith, nat_tests)

-- and it leads back to the number
counted-back : (b : ℕ) (z : ℤ) → is_signed b z ≡ true → pos (counted b z) -ℤ pos (2 ^ b) ≡ z
counted-back b (pos n) h = omega (arith, ints)
counted-back b (negsuc n) h =
    let low : suc n ≤ 2 ^ b = grind (arith, nat_tests) in
    omega (arith, ints)

-- a signed number is read back
signed_back : (k b : ℕ) → 2 ^ b + 2 ^ b ≡ 256 ^ k → 8 * k - 1 ≡ b → (z : ℤ) (rest : List ℕ) → is_signed b z ≡ true
    → read_signed k (unsigned_code k (z +ℤ pos (2 ^ b)) ++ rest) ≡ (av.Int z, rest)
signed_back k b e w z rest h =
    let n = counted b z in
    rw (counted-is b z h, w)
    (pair (av.Int (pos (number_of (take k (bytes_high_first k n ++ rest))) -ℤ pos (2 ^ b))) (av.Int z) (drop k (bytes_high_first k n ++ rest)) rest
    (ap (λ (m : ℕ). av.Int (pos m -ℤ pos (2 ^ b))) (front_back k n rest (subst (λ m. n < m) e (counted-below b z h))) ∙ ap av.Int (counted-back b z h))
    (behind_back k n rest))

-- a number of a type is read back
number_read : (t : DataType) (z : ℤ) (rest : List ℕ) → fits_number z t ≡ true → read_body t (number_code t z ++ rest) ≡ (av.Int z, rest)
number_read dt.Boolean z rest h = absurd cc
number_read dt.Int8 z rest h = signed_back 1 7 refl refl z rest h
number_read dt.Int16 z rest h = signed_back 2 15 refl refl z rest h
number_read dt.Int32 z rest h = signed_back 4 31 refl refl z rest h
number_read dt.Int64 z rest h = signed_back 8 63 refl refl z rest h
number_read dt.UInt8 z rest h = unsigned_back 1 8 refl z rest h
number_read dt.UInt16 z rest h = unsigned_back 2 16 refl z rest h
number_read dt.UInt32 z rest h = unsigned_back 4 32 refl z rest h
number_read dt.UInt64 z rest h = unsigned_back 8 64 refl z rest h
number_read dt.Int128 z rest h = signed_back 16 127 refl refl z rest h
number_read dt.Date z rest h = signed_back 4 31 refl refl z rest h
number_read dt.String z rest h = absurd cc

-- ---- texts and values

-- a text is read back
text_back : (s rest : List ℕ) → read_text (text_code s ++ rest) ≡ (s, rest)
text_back [] rest = refl
text_back (zero ∷ s) rest = ap (put_before 0) (text_back s rest)
text_back (suc b ∷ s) rest = rw (text_code-more b s) (ap (put_before (suc b)) (text_back s rest))

-- a truth value is read back
truth_back : (t : DataType) (b : Bool) (rest : List ℕ) → is_boolean t ≡ true → read_value t (value_code t (av.Boolean b) ++ rest) ≡ (av.Boolean b, rest)
truth_back dt.Boolean true rest h = refl
truth_back dt.Boolean false rest h = refl
truth_back dt.Int8 b rest h = absurd cc
truth_back dt.Int16 b rest h = absurd cc
truth_back dt.Int32 b rest h = absurd cc
truth_back dt.Int64 b rest h = absurd cc
truth_back dt.UInt8 b rest h = absurd cc
truth_back dt.UInt16 b rest h = absurd cc
truth_back dt.UInt32 b rest h = absurd cc
truth_back dt.UInt64 b rest h = absurd cc
truth_back dt.Int128 b rest h = absurd cc
truth_back dt.Date b rest h = absurd cc
truth_back dt.String b rest h = absurd cc

-- a text is read back as the value of its type
text_value_back : (t : DataType) (s rest : List ℕ) → is_string t ≡ true → read_value t (value_code t (av.Text s) ++ rest) ≡ (av.Text s, rest)
text_value_back dt.String s rest h = ap (λ (r : List ℕ × List ℕ). (av.Text r.0, r.1)) (text_back s rest)
text_value_back dt.Boolean s rest h = absurd cc
text_value_back dt.Int8 s rest h = absurd cc
text_value_back dt.Int16 s rest h = absurd cc
text_value_back dt.Int32 s rest h = absurd cc
text_value_back dt.Int64 s rest h = absurd cc
text_value_back dt.UInt8 s rest h = absurd cc
text_value_back dt.UInt16 s rest h = absurd cc
text_value_back dt.UInt32 s rest h = absurd cc
text_value_back dt.UInt64 s rest h = absurd cc
text_value_back dt.Int128 s rest h = absurd cc
text_value_back dt.Date s rest h = absurd cc

-- a value of a type is read back
pub value_back : (t : DataType) (v : AnyValue) (rest : List ℕ) → fits v t ≡ true → read_value t (value_code t v ++ rest) ≡ (v, rest)
value_back t av.Null rest h = refl
value_back t (av.Boolean b) rest h = truth_back t b rest h
value_back t (av.Int z) rest h = number_read t z rest h
value_back t (av.Text s) rest h = text_value_back t s rest h

-- a tuple is read back
pub values_back : (types : List DataType) (values : List AnyValue) (rest : List ℕ) → AreOfTypes types values → read_values types (code types values ++ rest) ≡ (values, rest)
values_back [] [] rest h = refl
values_back [] (v ∷ values) rest h = absurd h
values_back (t ∷ types) [] rest h = absurd h
values_back (t ∷ types) (v ∷ values) rest h =
    let tail = code types values ++ rest in
    rw (append_assoc (value_code t v) (code types values) rest)
    (ap (λ (r : AnyValue × List ℕ). value_before r.0 (read_values types r.1)) (value_back t v tail h.0)
    ∙ ap (value_before v) (values_back types values rest h.1))

-- ---- rows

-- the parts of a row are read back
parts_back : (types : List DataType) (r : SpillRow) (rest : List ℕ) → CanWait types r
    → read_parts types r.place.chunk r.place.row (length r.key) ((r.key ++ code types r.values) ++ rest) ≡ (r, rest)
parts_back types r rest h =
    let size = length r.key in
    let inputs : List ℕ = code types r.values ++ rest in
    let tail : List ℕ = (r.key ++ code types r.values) ++ rest in
    let joined : tail ≡ r.key ++ inputs = append_assoc r.key (code types r.values) rest in
    let key : take size tail ≡ r.key = ap (take size) joined ∙ take_at r.key inputs size refl in
    let behind : drop size tail ≡ inputs = ap (drop size) joined ∙ drop_at r.key inputs size refl in
    let made : List ℕ → List AnyValue × List ℕ → SpillRow × List ℕ = λ k v. (record { place = r.place; key = k; values = v.0 }, v.1) in
    ap (λ (k : List ℕ). made k (read_values types (drop size tail))) key
    ∙ ap (λ (bytes : List ℕ). made r.key (read_values types bytes)) behind
    ∙ ap (made r.key) (values_back types r.values rest h.inputs.of_types)

-- a row is read back
pub row_back : (types : List DataType) (r : SpillRow) (rest : List ℕ) → CanWait types r → read_row types (row_bytes types r ++ rest) ≡ (r, rest)
row_back types r rest h =
    let tail : List ℕ = (r.key ++ code types r.values) ++ rest in
    let chunk = number_of (bytes_high_first 4 r.place.chunk) in
    let row = number_of (bytes_high_first 4 r.place.row) in
    let size = number_of (bytes_high_first 8 (length r.key)) in
    ap (λ (n : ℕ). read_parts types n row size tail) (number_back 4 r.place.chunk h.chunk)
    ∙ ap (λ (n : ℕ). read_parts types r.place.chunk n size tail) (number_back 4 r.place.row h.row)
    ∙ ap (λ (n : ℕ). read_parts types r.place.chunk r.place.row n tail) (number_back 8 (length r.key) h.key)
    ∙ parts_back types r rest h

-- rows are read back
pub rows_back : (types : List DataType) (rows : List SpillRow) (rest : List ℕ) → All (CanWait types) rows
    → read_rows types (length rows) (rows_bytes types rows ++ rest) ≡ rows
rows_back types [] rest h = refl
rows_back types (r ∷ rows) rest h =
    let tail = rows_bytes types rows ++ rest in
    let can = CanWait types in
    ap (read_rows types (suc (length rows))) (append_assoc (row_bytes types r) (rows_bytes types rows) rest)
    ∙ (ap (λ (p : SpillRow × List ℕ). p.0 ∷ read_rows types (length rows) p.1) (row_back types r tail (All-head can r rows h))
    ∙ ap (λ (xs : List SpillRow). r ∷ xs) (rows_back types rows rest (All-tail can r rows h)))

-- as many rows are read as were asked for
pub count_read : (types : List DataType) (n : ℕ) (bytes : List ℕ) → length (read_rows types n bytes) ≡ n
count_read types zero bytes = refl
count_read types (suc n) bytes = ap suc (count_read types n (read_row types bytes).1)

-- ---- bytes that are those of rows

-- what is known of bytes that are those of these rows
pub record AreOfRows (types : List DataType) (count : ℕ) (bytes : List ℕ) (rows : List SpillRow) : Type 0 where
  pub hold : HoldRows types count bytes
  pub read : read_rows types count bytes ≡ rows

-- the rows themselves are read from their bytes alone
pub alone : (types : List DataType) (rows : List SpillRow) → All (CanWait types) rows → read_rows types (length rows) (rows_bytes types rows) ≡ rows
alone types rows h = ap (read_rows types (length rows)) (sym (append-nil (rows_bytes types rows))) ∙ rows_back types rows [] h

-- the bytes of rows are those of these rows
pub of_rows : (types : List DataType) (rows : List SpillRow) → All (CanWait types) rows → AreOfRows types (length rows) (rows_bytes types rows) rows
of_rows types rows h =
    let back = alone types rows h in
    record {
      hold = record { can = subst (All (CanWait types)) (sym back) h; whole = ap (rows_bytes types) back };
      read = back;
    }

-- a number and bytes that are those of rows
pub known : (types : List DataType) (count : ℕ) (bytes : List ℕ) (rows : List SpillRow) → All (CanWait types) rows
    → count ≡ length rows → bytes ≡ rows_bytes types rows → AreOfRows types count bytes rows
known types count bytes rows h c b = rw (c, b) (of_rows types rows h)

-- rows behind rows
pub join : (types : List DataType) (m n : ℕ) (a b : List ℕ) → HoldRows types m a → HoldRows types n b
    → AreOfRows types (m + n) (a ++ b) (read_rows types m a ++ read_rows types n b)
join types m n a b h g =
    let xs = read_rows types m a in
    let ys = read_rows types n b in
    known types (m + n) (a ++ b) (xs ++ ys) (All-append (CanWait types) xs ys h.can g.can)
    (omega (arith, length-append xs ys, count_read types m a, count_read types n b))
    (sym (rows_bytes-append types xs ys ∙ ap (λ (l : List ℕ). l ++ rows_bytes types ys) h.whole ∙ ap (λ (l : List ℕ). a ++ l) g.whole))

-- one row
pub one : (types : List DataType) (r : SpillRow) → CanWait types r → AreOfRows types 1 (row_bytes types r) (r ∷ [])
one types r h = known types 1 (row_bytes types r) (r ∷ []) (All-cons (CanWait types) r [] h (All-nil (CanWait types))) refl (sym (append-nil (row_bytes types r)))

-- one more row behind rows
pub more : (types : List DataType) (n : ℕ) (bytes : List ℕ) (r : SpillRow) → HoldRows types n bytes → CanWait types r
    → AreOfRows types (n + 1) (bytes ++ row_bytes types r) (read_rows types n bytes ++ r ∷ [])
more types n bytes r h c =
    let last = one types r c in
    subst (λ (xs : List SpillRow). AreOfRows types (n + 1) (bytes ++ row_bytes types r) (read_rows types n bytes ++ xs)) last.read
    (join types n 1 bytes (row_bytes types r) h last.hold)

-- a row of given types can wait where the length of its key fits
pub can_wait : (keys inputs : List DataType) (r : SpillRow) → IsRow keys inputs r → length r.key < 2 ^ 64 → CanWait inputs r
can_wait keys inputs r h k = record { chunk = h.chunk; row = h.row; key = k; inputs = h.inputs }

-- rows of given types can wait where their bytes stand in a memory
pub all_can_wait : (keys inputs : List DataType) (rows : List SpillRow) → AreRows keys inputs rows → length (rows_bytes inputs rows) < 2 ^ 64 → All (CanWait inputs) rows
all_can_wait keys inputs [] h room = All-nil (CanWait inputs)
all_can_wait keys inputs (r ∷ rows) h room =
    let is = IsRow keys inputs in
    let whole = length-append (row_bytes inputs r) (rows_bytes inputs rows) in
    let size = row_least inputs r [] in
    let ends = length-append (row_bytes inputs r) [] in
    All-cons (CanWait inputs) r rows (can_wait keys inputs r (All-head is r rows h) (omega (arith, room, whole, size, ends)))
    (all_can_wait keys inputs rows (All-tail is r rows h) (omega (arith, room, whole)))

-- bytes and the number of their rows are the frame of the rows
pub frame_is : (types : List DataType) (count : ℕ) (bytes : List ℕ) → HoldRows types count bytes
    → bytes_high_first 8 count ++ bytes ≡ frame_bytes types (read_rows types count bytes)
frame_is types count bytes h =
    let rows = read_rows types count bytes in
    ap (λ (n : ℕ). bytes_high_first 8 n ++ bytes) (sym (count_read types count bytes))
    ∙ ap (λ (l : List ℕ). bytes_high_first 8 (length rows) ++ l) (sym h.whole)

-- one more row waits
pub pushed : (types : List DataType) (r : SpillRow) (before after : Waiting) → CanWait types r
    → after.count ≡ before.count + 1 → after.bytes ≡ before.bytes ++ row_bytes types r → HasPushed types r before after
pushed types r before after can count bytes =
    let is : AreWaiting types before → AreOfRows types after.count after.bytes (waiting_rows types before ++ r ∷ []) =
    λ h. rw (count, bytes) (more types before.count before.bytes r h can) in
    record { count = count; bytes = bytes; typed = λ h. (is h).hold; rows = λ h. (is h).read }

-- one more row waits where it was appended
pub pushed_if : {X E : Type 0} (result : Result X E) (types : List DataType) (r : SpillRow) (before after : Waiting) → OnOk result (CanWait types r)
    → after.count ≡ before.count + 1 → OnOk result (after.bytes ≡ before.bytes ++ row_bytes types r) → OnOk result (HasPushed types r before after)
pushed_if (Ok x) types r before after can count bytes = pushed types r before after can count bytes
pushed_if (Err e) types r before after can count bytes = tt

-- a row can wait where its inputs were tested
pub can_if : {X E : Type 0} (result : Result X E) (types : List DataType) (r : SpillRow) → r.place.chunk < 2 ^ 32 → r.place.row < 2 ^ 32 → length r.key < 2 ^ 64
    → OnOk result (IsTuple types r.values) → OnOk result (CanWait types r)
can_if (Ok x) types r chunk row key inputs = record { chunk = chunk; row = row; key = key; inputs = inputs }
can_if (Err e) types r chunk row key inputs = tt

-- inputs behind what stands of a row before them
pub row_appended : {X E : Type 0} (result : Result X E) (old head key inputs middle new : List ℕ) → middle ≡ old ++ (head ++ key) → OnOk result (new ≡ middle ++ inputs)
    → OnOk result (new ≡ old ++ (head ++ (key ++ inputs)))
row_appended (Ok x) old head key inputs middle new e f =
    f ∙ ap (λ (l : List ℕ). l ++ inputs) e ∙ append_assoc old (head ++ key) inputs ∙ ap (λ (l : List ℕ). old ++ l) (append_assoc head key inputs)
row_appended (Err x) old head key inputs middle new e f = tt

-- a key behind its head
pub key_appended : {X E : Type 0} (result : Result X E) (old head key middle new : List ℕ) → middle ≡ old ++ head → new ≡ (if is_ok result then middle ++ key else middle)
    → OnOk result (new ≡ old ++ (head ++ key))
key_appended (Ok x) old head key middle new e f = f ∙ ap (λ (l : List ℕ). l ++ key) e ∙ append_assoc old head key
key_appended (Err x) old head key middle new e f = tt

-- no bytes are those of no rows
pub none_hold : (types : List DataType) → HoldRows types 0 []
none_hold types = (of_rows types [] (All-nil (CanWait types))).hold
