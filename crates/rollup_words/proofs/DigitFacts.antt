-- The position that digits write.
use Rattle.std.proofs.Common.{◌≡◌, ◌<◌, ◌≤◌, ◌^◌, ◌*◌, ◌+◌, ◌-◌, ℕ, Bool, List, length, true, false, Option, Some, None, rules, refl, sym, ap, arith}
use Rattle.std.specs.Prelude.{Result, Ok, Err, nat_lt, if◌then◌else◌}
use Rattle.std.specs.Char.{is_ascii_digit}
use Rattle.std.specs.List.{fold, list_all}
use Rattle.std.specs.Result.{OkIff, result_ok}
use Rattle.std.specs.Str.Parse.{ParsesUnsigned}
use Rattle.std.proofs.lemmas.Bool.{lt-ltb, ltb-true}
use Rattle.std.proofs.lemmas.Str.Parse.{IsNumeralModel, numerals_by_fold, parse_digits}
use Rattle.rollup_words.specs.Said.{is_number, number_in, position_in}

-- digits after others, as a number
abbrev read_on : ℕ → List ℕ → ℕ
read_on n digits = fold (λ m d. m * 10 + (d - 48)) n digits

digits : IsNumeralModel (λ ds. list_all is_ascii_digit ds ≡ true) (read_on 0)
digits = numerals_by_fold _ (search rules) read_on (search rules)

in-range : {E : Type 0} (some : Type 0) (n m : ℕ) (r : Result ℕ E) → some → OkIff r (some × (n < m)) n → result_ok r ≡ (if nat_lt n m then Some n else None)
in-range some n m (Ok k) has h = rw (h.1, lt-ltb n m h.0.1) refl
in-range some n m (Err e) has h = by (nat_lt n m) refl where
  by : (b : Bool) → nat_lt n m ≡ b → None ≡ (if b then Some n else None)
  by true is = absurd (h (has, ltb-true n m is))
  by false is = refl

-- what is parsed of a word of digits
pub parsed : {E : Type 0} (word : List ℕ) (r : Result ℕ E) → ParsesUnsigned 32 10 word r → is_number word ≡ true → list_all is_ascii_digit word ≡ true → 1 ≤ length word
    → result_ok r ≡ position_in word
parsed word r parses number all some = rw number (in-range (0 < length word) (number_in word) (2 ^ 32) r (omega (arith, some)) (parse_digits digits 32 word r parses all))
