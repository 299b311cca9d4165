-- The numbers that fields write.
use Rattle.std.specs.Prelude.{ℕ, ◌+◌, ◌*◌, ◌-◌, ◌==◌, ℤ, pos, neg_ℤ, nat_le, Bool, true, false, List, [], ◌∷◌, fold, length, Option, Some, None, option_map, if◌then◌else◌}
use Rattle.std.specs.List.{list_all}
use Rattle.std.specs.Char.{is_ascii_digit}

-- the number that digits write
abbrev pub number_of : List ℕ → ℕ
number_of digits = fold (λ n d. n * 10 + (d - 48)) 0 digits

-- one or more digits, as their number
abbrev pub read_digits : List ℕ → Option ℕ
read_digits [] = None
read_digits (d ∷ ds) =
    if list_all is_ascii_digit (d ∷ ds) then Some (number_of (d ∷ ds)) else None

-- digits after one `+` or `-` at most
abbrev pub read_number : List ℕ → Option ℤ
read_number [] = None
read_number (b ∷ bs) =
    if b == 43 then option_map pos (read_digits bs)
    else (if b == 45 then option_map (λ n. neg_ℤ (pos n)) (read_digits bs)
    else option_map pos (read_digits (b ∷ bs)))

-- one to 18 digits, as their number
abbrev pub read_few_digits : List ℕ → Option ℕ
read_few_digits digits = if nat_le (length digits) 18 then read_digits digits else None

-- a magnitude with its sign
abbrev pub signed : Bool → ℕ → ℤ
signed true n = neg_ℤ (pos n)
signed false n = pos n

-- one to 18 digits after one `-` at most
abbrev pub read_short_number : List ℕ → Option ℤ
read_short_number [] = None
read_short_number (b ∷ bs) =
    option_map (signed (b == 45)) (read_few_digits (if b == 45 then bs else b ∷ bs))
