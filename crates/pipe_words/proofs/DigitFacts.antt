-- Reading digits one at a time.
use Rattle.std.proofs.Common.{ℕ, ◌+◌, ◌-◌, ◌*◌, ◌^◌, ◌<◌, ◌≤◌, List, Option, Some, None, if◌then◌else◌, arith}
use Rattle.std.specs.List.{fold, list_all}
use Rattle.std.specs.Char.{is_ascii_digit}
use Rattle.std.proofs.Math.Nat.{pow-le-pow_right}

-- digits after others, as the number of them all
abbrev pub digits_after : ℕ → List ℕ → Option ℕ
digits_after n digits =
    if list_all is_ascii_digit digits then Some (fold (λ m d. m * 10 + (d - 48)) n digits) else None

-- below 20 digits there is room for one more in 128 bits
pub room_for_digit : (i n : ℕ) → i < 20 → n < 10 ^ i → n * 10 + 10 ≤ 10 ^ 20
room_for_digit i n h l = let p : 10 ^ i ≤ 10 ^ 19 = pow-le-pow_right {n = 10} (omega arith) {i = i} {j = 19} (omega arith) in omega arith
