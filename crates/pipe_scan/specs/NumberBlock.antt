-- Of the proofs alone: rows of short numbers among 64 bytes of a text, by bits for its bytes.
use Rattle.std.specs.Prelude.{ℕ, ◌≡◌, ◌≢◌, ◌+◌, ◌-◌, ◌==◌, ◌||◌, ◌≤◌, ◌<◌, ◌⊎◌, Bool, true, false, List, length, slice_index}
use Rattle.std.specs.Int.{bit_at}
use Rattle.pipe_scan.specs.NextStop.{HasNone, IsSeen}
use Rattle.pipe_scan.specs.Plain.{IsPlainRow}
use Rattle.pipe_scan.specs.PlainField.{behind_sign}
use Rattle.pipe_scan.specs.Stops.{is_no_digit}

-- a comma or LF
abbrev pub is_end : ℕ → Bool
is_end c = (c == 44) || (c == 10)

-- each of n bits from a place on is set
abbrev pub AreSet : ℕ → ℕ → ℕ → Type 0
AreSet bits i n = (j : ℕ) → i ≤ j → j < i + n → bit_at bits j ≡ 1

-- no 19 of 64 bits in a row are set
abbrev pub HasNoLongRun : ℕ → Type 0
HasNoLongRun bits = (i : ℕ) → i + 19 ≤ 64 → AreSet bits i 19 → ⊥

-- the bits below a place, below which all bits of others are set
pub record AreBelowGap (bits below : ℕ) : Type 0 where
  pub count : ℕ
  pub few : count ≤ 64
  pub set : AreSet bits 0 count
  pub are : AreSet below 0 count
  pub above : (i : ℕ) → i < 64 → count ≤ i → bit_at below i ≡ 0

-- bit i is that of a digit, of a sign where a field begins, or of the end of a field behind a digit
abbrev pub IsGood : ℕ → ℕ → ℕ → ℕ → Type 0
IsGood digits ends signs i =
    (bit_at digits i ≡ 1)
    ⊎ ((bit_at signs i ≡ 1) × ((i ≡ 0) ⊎ ((0 < i) × (bit_at ends (i - 1) ≡ 1))))
    ⊎ ((bit_at ends i ≡ 1) × (0 < i) × (bit_at digits (i - 1) ≡ 1))

-- the ends of fields below a place, below which each bit is good and no run of digits is long
pub record AreLegalEnds (digits ends signs below : ℕ) : Type 0 where
  pub count : ℕ
  pub few : count ≤ 64
  pub good : (i : ℕ) → i < count → IsGood digits ends signs i
  pub short : 0 < count → HasNoLongRun digits
  pub is : (i : ℕ) → i < 64 → bit_at below i ≡ 1 → (i < count) × (bit_at ends i ≡ 1)
  pub is_not : (i : ℕ) → i < count → bit_at below i ≡ 0 → bit_at ends i ≡ 0

-- a field begins where the bytes do, or behind the end of another one
abbrev pub IsBegin : List ℕ → ℕ → ℕ → Type 0
IsBegin text at k = (k ≡ at) ⊎ ((at < k) × (is_end (slice_index text (k - 1)) ≡ true))

-- a digit, a sign where a field begins, or the end of a field behind a digit
abbrev pub IsLegal : List ℕ → ℕ → ℕ → Type 0
IsLegal text at k =
    (is_no_digit (slice_index text k) ≡ false)
    ⊎ ((slice_index text k ≡ 45) × IsBegin text at k)
    ⊎ ((is_end (slice_index text k) ≡ true) × (at < k)
    × (is_no_digit (slice_index text (k - 1)) ≡ false))

-- no 19 of 64 bytes from a place on are digits
abbrev pub HasNoLongNumber : List ℕ → ℕ → Type 0
HasNoLongNumber text at =
    (k : ℕ) → at ≤ k → k + 19 ≤ at + 64 → HasNone is_no_digit text k (k + 19) → ⊥

-- bits mark the ends of fields from a place on, as far as 64 bytes are rows of short numbers
pub record IsNumberBlock (text : List ℕ) (at low bits : ℕ) : Type 0 where
  pub count : ℕ
  pub few : count ≤ 64
  pub within : at + 64 ≤ length text
  pub behind : at ≤ low
  pub before : low ≤ at + count
  pub begin : IsBegin text at low
  pub legal : (k : ℕ) → at ≤ k → k < at + count → IsLegal text at k
  pub short : 0 < count → HasNoLongNumber text at
  pub is : (i : ℕ) → i < 64 → bit_at bits i ≡ 1
      → (i < count) × (low ≤ at + i) × (is_end (slice_index text (at + i)) ≡ true)
  pub is_not : (i : ℕ) → i < count → low ≤ at + i → bit_at bits i ≡ 0
      → is_end (slice_index text (at + i)) ≡ false

-- bits mark those ends of fields that are LF; the others are commas
pub record AreLines (text : List ℕ) (at ends lines : ℕ) : Type 0 where
  pub line : (i : ℕ) → i < 64 → bit_at lines i ≡ 1
      → (bit_at ends i ≡ 1) × (slice_index text (at + i) ≡ 10)
  pub comma : (i : ℕ) → i < 64 → bit_at ends i ≡ 1 → bit_at lines i ≡ 0
      → slice_index text (at + i) ≡ 44

-- a row was gone over up to a place, and these are the ends and the lines behind it
pub record GoesRow (text : List ℕ) (at place next ends lines : ℕ) (numbers : List Bool) : Type 0 where
  pub row : (start : ℕ) × (fields : List ℕ) × IsPlainRow text place next start numbers fields
  pub block : IsNumberBlock text at next ends
  pub behind : AreLines text at ends lines

-- the field from a place on is a short number up to its end, and these are the ends behind that
pub record IsNumberEnd (text : List ℕ) (at low end rest : ℕ) : Type 0 where
  pub seen : IsSeen is_no_digit text (behind_sign text low) end
  pub some : end ≢ behind_sign text low
  pub few : end - behind_sign text low ≤ 18
  pub block : IsNumberBlock text at (end + 1) rest
