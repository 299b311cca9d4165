-- Reading digits one at a time.
use Rattle.std.proofs.Common.{◌≡◌, ℕ, ◌+◌, ◌-◌, ◌*◌, ◌^◌, ◌<◌, ◌≤◌, Bool, true, false, List, [], ◌∷◌, Option, Some, None, option_and_then, if◌then◌else◌, refl, arith}
use Rattle.std.specs.List.{fold, list_all}
use Rattle.std.specs.Char.{is_ascii_digit}
use Rattle.std.proofs.Math.Nat.{pow-le-pow_right}
use Rattle.std.proofs.lemmas.Bool.Decides.{nat_tests}
use Rattle.pipe_csv.specs.Numbers.{within_magnitude}

-- the number that digits write after others
abbrev pub number_after : ℕ → List ℕ → ℕ
number_after n digits = fold (λ n d. n * 10 + (d - 48)) n digits

-- digits after others, as the number of them all
abbrev pub digits_after : ℕ → List ℕ → Option ℕ
digits_after n digits = if list_all is_ascii_digit digits then Some (number_after n digits) else None

-- below 18 digits there is room for one more in 64 bits
pub room_for_digit : (i n : ℕ) → i < 18 → n < 10 ^ i → n * 10 + 10 ≤ 10 ^ 18
room_for_digit i n h l = let p : 10 ^ i ≤ 10 ^ 17 = pow-le-pow_right {n = 10} (omega arith) {i = i} {j = 17} (omega arith) in omega arith

-- digits never make a number less
number_after-grows : (n : ℕ) (digits : List ℕ) → n ≤ number_after n digits
number_after-grows n [] = omega arith
number_after-grows n (d ∷ ds) = let h : n * 10 + (d - 48) ≤ number_after (n * 10 + (d - 48)) ds = number_after-grows (n * 10 + (d - 48)) ds in omega arith

-- a magnitude that 128 bits don't hold
too_great : (m : ℕ) → 2 ^ 127 < m → within_magnitude m ≡ None
too_great m h = grind (arith, nat_tests)

-- it is none, whether or not digits write it
none_within : (b : Bool) (m : ℕ) → 2 ^ 127 < m → option_and_then within_magnitude (if b then Some m else None) ≡ None
none_within true m h = too_great m h
none_within false m h = refl

-- a number above a tenth of the greatest magnitude has no room for a digit
pub no_room_for_digit : (n d : ℕ) (ds : List ℕ) → 17014118346046923173168730371588410572 < n → option_and_then within_magnitude (digits_after n (d ∷ ds)) ≡ None
no_room_for_digit n d ds h =
    let grows : n * 10 + (d - 48) ≤ number_after (n * 10 + (d - 48)) ds = number_after-grows (n * 10 + (d - 48)) ds in
    none_within (list_all is_ascii_digit (d ∷ ds)) (number_after n (d ∷ ds)) (omega arith)
