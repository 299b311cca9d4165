-- A frame of rows of one partition is tested row by row.
use Rattle.std.proofs.Common.{◌≡◌, ◌≢◌, ◌∙◌, ◌++◌, ◌+◌, ◌%◌, ◌==◌, ◌^◌, ◌<◌, ℕ, Bool, List, [], ◌∷◌, true, false, refl, sym, ap, subst, length, drop, append_assoc, arith}
use Rattle.std.specs.Prelude.{All, IsTrue, ◌↔◌}
use Rattle.std.specs.List.{list_all}
use Rattle.std.specs.Int.{bytes_high_first}
use Rattle.std.proofs.lemmas.Bool.{and_parts, eqb-true, false≢true}
use Rattle.std.proofs.lemmas.Bool.Decides.{nat_tests}
use Rattle.std.proofs.lemmas.List.{append-nil}
use Rattle.std.proofs.lemmas.List.Elements.{All-cons, All-head, All-nil, All-push, All-tail}
use Rattle.pipe_columns.specs.declared.data_type.DataType.{DataType}
use Rattle.pipe_columns.specs.declared.any_value.AnyValue.{AnyValue}
use Rattle.pipe_columns.specs.Key.{code, fold_bytes}
use Rattle.pipe_spill.specs.FrameBytes.{frame_bytes, row_bytes, rows_bytes}
use Rattle.pipe_spill.specs.KeyTypes.{IsTuple}
use Rattle.pipe_spill.specs.Reading.{BeginsNoTuple}
use Rattle.pipe_spill.specs.SpillRow.{AreRows, IsKey, IsRow}
use Rattle.pipe_spill.specs.declared.spill_row.SpillRow.{SpillRow}
use Rattle.pipe_spill.proofs.FrameOnce.{AreReadTo, bytes_left, frame_whole, one_read}
use Rattle.pipe_spill.proofs.RowOnce.{eight_once, row_once}
use Rattle.pipe_spill.proofs.ValuesRead.{no_code, no_code-left, no_key, whole_code}
use Rattle.pipe_waiting.specs.OwnRows.{AreTestedTo, BeginsNoOwnRow, BeginsOwnRow, IsOwn}
use Rattle.pipe_waiting.specs.ReadRows.{read_rows}
use Rattle.pipe_waiting.specs.Waiting.{HoldRows}
use Rattle.pipe_waiting.proofs.Giving.{headed, row_headed, same_parts}
use Rattle.pipe_waiting.proofs.ReadBack.{all_can_wait, known}

module _ (key_types types : List DataType) (partitions number : ℕ) where
  -- such rows are typed
  are_typed : (rows : List SpillRow) → All (IsOwn key_types types partitions number) rows → AreRows key_types types rows
  are_typed rows h = λ k d within. (h k d within).is

  -- and their keys lie in the partition
  all_lie : (rows : List SpillRow) → All (IsOwn key_types types partitions number) rows → list_all (λ (r : SpillRow). fold_bytes r.key % partitions == number) rows ≡ true
  all_lie [] h = refl
  all_lie (r ∷ rows) h =
      let own = IsOwn key_types types partitions number in
      rw (All-head own r rows h).lies (all_lie rows (All-tail own r rows h))

  -- typed rows whose keys lie in the partition are such rows
  are_own : (rows : List SpillRow) → AreRows key_types types rows → list_all (λ (r : SpillRow). fold_bytes r.key % partitions == number) rows ≡ true
      → All (IsOwn key_types types partitions number) rows
  are_own [] h l = All-nil (IsOwn key_types types partitions number)
  are_own (r ∷ rows) h l =
      let row = IsRow key_types types in
      let lies = λ (r : SpillRow). fold_bytes r.key % partitions == number in
      let parts = and_parts (lies r) (list_all lies rows) l in
      All-cons (IsOwn key_types types partitions number) r rows (record { is = All-head row r rows h; lies = parts.0 }) (are_own rows (All-tail row r rows h) parts.1)

  -- more rows than were tested begin with one more
  next_own : (xs ys : List SpillRow) (rest : List ℕ) → All (IsOwn key_types types partitions number) xs → All (IsOwn key_types types partitions number) ys
      → length xs < length ys → rows_bytes types ys ≡ rows_bytes types xs ++ rest → BeginsNoOwnRow key_types types partitions number rest → ⊥
  next_own xs [] rest p q n e none = absurd (omega (arith, n))
  next_own [] (y ∷ ys) rest p q n e none = none y (rows_bytes types ys) (All-head (IsOwn key_types types partitions number) y ys q) e
  next_own (x ∷ xs) (y ∷ ys) rest p q n e none =
      let own = IsOwn key_types types partitions number in
      let first = row_once key_types types y x (rows_bytes types ys) (rows_bytes types xs ++ rest) (All-head own y ys q).is (All-head own x xs p).is
      (e ∙ append_assoc (row_bytes types x) (rows_bytes types xs) rest) in
      next_own xs ys rest (All-tail own x xs p) (All-tail own y ys q) (omega (arith, n)) first.1 none

  -- before the first row all bytes are left
  pub none_tested : (all : List ℕ) → AreTestedTo key_types types partitions number all all 0
  none_tested all = record { rows = []; own = All-nil (IsOwn key_types types partitions number); bytes = refl; counted = refl }

  -- they are read, too
  are_read : (rest all : List ℕ) (i : ℕ) (h : AreTestedTo key_types types partitions number rest all i) → AreReadTo key_types types h.rows rest all i
  are_read rest all i h = record { are = are_typed h.rows h.own; bytes = h.bytes; counted = h.counted }

  -- one more row is tested
  pub one_tested : (rest after all : List ℕ) (i : ℕ) → AreTestedTo key_types types partitions number rest all i → BeginsOwnRow key_types types partitions number rest after → AreTestedTo key_types types partitions number after all (i + 1)
  one_tested rest after all i h f =
      let more = one_read key_types types h.rows (h.rows ++ f.row ∷ []) f.row rest after all i (are_read rest all i h) f.own.is f.front refl in
      record {
        rows = h.rows ++ f.row ∷ [];
        own = All-push (IsOwn key_types types partitions number) h.rows f.row h.own f.own;
        bytes = more.bytes;
        counted = more.counted;
      }

  -- no row begins where one should
  pub no_next : (count : ℕ) (rest all : List ℕ) (i : ℕ) → AreTestedTo key_types types partitions number rest all i → i < count
      → BeginsNoOwnRow key_types types partitions number rest
      → (rows : List SpillRow) → AreRows key_types types rows → list_all (λ (r : SpillRow). fold_bytes r.key % partitions == number) rows ≡ true
      → length rows ≡ count → rows_bytes types rows ≢ all
  no_next count rest all i h below none rows typed lie n e =
      next_own h.rows rows rest h.own (are_own rows typed lie) (omega (arith, h.counted, below, n)) (e ∙ sym h.bytes) none

  module _ (count : ℕ) (all bytes : List ℕ) (short : count < 2 ^ 64) (room : length all < 2 ^ 64) where
    -- rows of another number have another frame
    pub other_count : (told : ℕ) → told < 2 ^ 64 → told ≢ count → bytes_high_first 8 told ++ all ≡ bytes
        → (rows : List SpillRow) → length rows ≡ count → frame_bytes types rows ≢ bytes
    other_count told small differ head rows n e =
        let few : length rows < 2 ^ 64 = omega (arith, n, short) in
        let same = eight_once (length rows) told (rows_bytes types rows) all few small (e ∙ sym head) in
        differ (omega (arith, same, n))

    module _ (head : bytes_high_first 8 count ++ all ≡ bytes) where
      -- no rows of the frame have other bytes behind the number
      pub no_rows : (rows : List SpillRow) → rows_bytes types rows ≢ all → frame_bytes types rows ≢ bytes
      no_rows rows none e = none (ap (λ (l : List ℕ). drop 8 l) (e ∙ sym head))

      -- bytes are left behind the last row
      pub surplus : (rest : List ℕ) → AreTestedTo key_types types partitions number rest all count → rest ≢ []
          → (rows : List SpillRow) → AreRows key_types types rows → frame_bytes types rows ≢ bytes
      surplus rest h some rows typed e = bytes_left key_types types count all bytes short room head h.rows rest (are_read rest all count h) some rows typed e

      -- what is known of bytes that were tested whole
      pub record AreTested : Type 0 where
        pub held : HoldRows types count all
        pub typed : AreRows key_types types (read_rows types count all)
        pub lie : list_all (λ (r : SpillRow). fold_bytes r.key % partitions == number) (read_rows types count all) ≡ true
        pub frame : frame_bytes types (read_rows types count all) ≡ bytes

      -- no bytes are left behind the last row
      pub tested : (rest : List ℕ) → AreTestedTo key_types types partitions number rest all count → rest ≡ [] → AreTested
      tested rest h none =
          let typed = are_typed h.rows h.own in
          let whole : all ≡ rows_bytes types h.rows = sym h.bytes ∙ ap (λ (l : List ℕ). rows_bytes types h.rows ++ l) none ∙ append-nil (rows_bytes types h.rows) in
          let can = all_can_wait key_types types h.rows typed (omega (arith, room, ap length whole)) in
          let of = known types count all h.rows can (sym h.counted) whole in
          record {
            held = of.hold;
            typed = subst (AreRows key_types types) (sym of.read) typed;
            lie = subst (λ (rows : List SpillRow). list_all (λ (r : SpillRow). fold_bytes r.key % partitions == number) rows ≡ true) (sym of.read) (all_lie h.rows h.own);
            frame = subst (λ (rows : List SpillRow). frame_bytes types rows ≡ bytes) (sym of.read)
                (frame_whole key_types types count all bytes short room head h.rows rest (are_read rest all count h) none);
          }

-- ---- one row

-- numbers that are the same are found to be
same_number : (x n : ℕ) → x ≡ n → (x == n) ≡ true
same_number x n e = grind (arith, nat_tests)

-- a tuple's code is a key exactly where no bytes are left behind it
pub key_tested : (types : List DataType) (key : List ℕ) (values : List AnyValue) (rest : List ℕ) (empty : Bool) → IsTuple types values → code types values ++ rest ≡ key
    → empty ≡ (length rest == 0) → IsTrue empty ↔ IsKey types key
key_tested types key values [] empty p e h = (λ t. (values, p, whole_code types key values [] e refl), λ k. h)
key_tested types key values (b ∷ rest) empty p e h =
    let some : (length (b ∷ rest) == 0) ≡ false = grind (arith, nat_tests) in
    (λ t. absurd (false≢true (sym some ∙ sym h ∙ t)), λ k. absurd (no_key types key (no_code-left types key values (b ∷ rest) p e (λ n. cc)) k))

-- bytes that begin with no tuple's code are no key
pub no_key_there : (types : List DataType) (key : List ℕ) → BeginsNoTuple types key → IsTrue false ↔ IsKey types key
no_key_there types key n = (λ t. absurd (false≢true t), λ k. absurd (no_key types key (no_code types key n) k))

-- bytes that begin with a place, a key and these
module _ (key_types types : List DataType) (partitions number chunk row : ℕ) (key inputs bytes : List ℕ) (room : length bytes < 2 ^ 64)
    (head : headed chunk row key inputs ≡ bytes) where
  -- a key of another partition
  pub other_partition : fold_bytes key % partitions ≢ number → BeginsNoOwnRow key_types types partitions number bytes
  other_partition differ r rest own e =
      let parts = same_parts types chunk row key inputs bytes r rest room head e in
      differ (subst (λ (k : List ℕ). fold_bytes k % partitions ≡ number) parts.0 (eqb-true (fold_bytes r.key % partitions) number own.lies))

  -- bytes that are no key
  pub no_own_key : (IsKey key_types key → ⊥) → BeginsNoOwnRow key_types types partitions number bytes
  no_own_key none r rest own e =
      none (subst (IsKey key_types) (same_parts types chunk row key inputs bytes r rest room head e).0 own.is.key)

  -- no inputs begin behind the key
  pub no_own_inputs : BeginsNoTuple types inputs → BeginsNoOwnRow key_types types partitions number bytes
  no_own_inputs none r rest own e =
      none r.values rest own.is.inputs (same_parts types chunk row key inputs bytes r rest room head e).1

  -- a row of the partition stands there
  pub own_row : chunk < 2 ^ 32 → row < 2 ^ 32 → fold_bytes key % partitions ≡ number → IsKey key_types key → (values : List AnyValue) (rest : List ℕ)
      → IsTuple types values → code types values ++ rest ≡ inputs → BeginsOwnRow key_types types partitions number bytes rest
  own_row low few lies is values rest tuple behind =
      let r : SpillRow = record { place = record { chunk = chunk; row = row }; key = key; values = values } in
      record {
        row = r;
        own = record {
          is = record { chunk = low; row = few; key = is; inputs = tuple };
          lies = same_number (fold_bytes key % partitions) number lies;
        };
        front = row_headed types r rest ∙ ap (headed chunk row key) behind ∙ head;
      }
