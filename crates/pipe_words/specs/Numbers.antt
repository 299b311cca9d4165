-- The numbers that options have.
use Rattle.std.specs.Prelude.{ℕ, ◌+◌, ◌*◌, ◌-◌, ◌&&◌, nat_le, Bool, List, length, fold, Option, Some, None, option_and_then, if◌then◌else◌}
use Rattle.std.specs.List.{list_all}
use Rattle.std.specs.Char.{is_ascii_digit}

-- the number that digits write
abbrev pub word_number : List ℕ → ℕ
word_number digits = fold (λ n d. n * 10 + (d - 48)) 0 digits

-- whether a text is 1 to 20 digits
abbrev pub is_number : List ℕ → Bool
is_number text = nat_le 1 (length text) && (nat_le (length text) 20 && list_all is_ascii_digit text)

-- the number that a text writes
abbrev pub read_word_number : List ℕ → Option ℕ
read_word_number text = if is_number text then Some (word_number text) else None

-- a number from one to another
abbrev pub within : ℕ → ℕ → ℕ → Option ℕ
within low high n = if nat_le low n && nat_le n high then Some n else None

-- the number of an option that may be from one number to another, or what stands where there is none
abbrev pub number_or : ℕ → ℕ → ℕ → Option (List ℕ) → Option ℕ
number_or absent low high None = Some absent
number_or absent low high (Some text) = option_and_then (within low high) (read_word_number text)

-- the greatest number of 64 bits
abbrev pub most : ℕ
most = 18446744073709551615

-- a number up to another, which may be left away
abbrev pub up_to : ℕ → Option (List ℕ) → Option (Option ℕ)
up_to high None = Some None
up_to high (Some text) =
    option_and_then (λ n. Some (Some n)) (option_and_then (within 0 high) (read_word_number text))
