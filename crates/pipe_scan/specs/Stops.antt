-- The bytes of a text at which a scan stops, and those that are no digits, found many at a time.
use lib.Lanes.{mask_l, chunk}
use Rattle.std.specs.Prelude.{ℕ, ◌≡◌, ◌+◌, ◌%◌, ◌≤◌, ◌<◌, nat_le, Bool, true, false, List, length, map, slice_index}
use Rattle.std.specs.Int.{bit_at}
use Rattle.pipe_scan.specs.declared.stops.Stops.{Stops}

-- a byte up to the comma, as are the bytes that end a line and the quote
abbrev pub is_stop : ℕ → Bool
is_stop c = nat_le c 44

-- a byte that is no digit: counted from the code of 0 it is more than 9
abbrev pub is_no_digit : ℕ → Bool
is_no_digit c = nat_le 10 ((c + 208) % 256)

-- the bits of the bytes of a kind among n bytes of a text from a place on
abbrev pub marks : (ℕ → Bool) → List ℕ → ℕ → ℕ → ℕ
marks kind text at n = mask_l (map kind (chunk at n text))

-- bits mark the bytes of a kind among up to 64 from a place on
pub record DoMark (kind : ℕ → Bool) (text : List ℕ) (at bits : ℕ) : Type 0 where
  pub count : ℕ
  pub within : at + count ≤ length text
  pub few : count ≤ 64
  pub are : bits ≡ marks kind text at count

-- bits mark the bytes of a kind from a place on, among up to 64 from another place on
pub record DoMarkFrom (kind : ℕ → Bool) (text : List ℕ) (low at bits : ℕ) : Type 0 where
  pub count : ℕ
  pub within : low + count ≤ length text
  pub few : count ≤ 64
  pub order : low ≤ at
  pub is : (i : ℕ) → i < 64 → bit_at bits i ≡ 1
      → (i < count) × (at ≤ low + i) × (kind (slice_index text (low + i)) ≡ true)
  pub is_not : (i : ℕ) → i < count → at ≤ low + i → bit_at bits i ≡ 0
      → kind (slice_index text (low + i)) ≡ false

-- what is known of a text around a cursor
pub record AreMarked (text : List ℕ) (s : Stops) : Type 0 where
  pub within : s.cursor ≤ length text
  pub stops : DoMarkFrom is_stop text s.low s.cursor s.stops
  pub others : DoMark is_no_digit text s.low s.others
