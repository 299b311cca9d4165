-- Numbers of millionths as decimal numbers.
use Rattle.std.specs.Prelude.{ℕ, zero, suc, ◌+◌, ◌*◌, ◌/◌, ◌%◌, ◌==◌, ℤ, pos, negsuc, List, [], ◌∷◌, ◌++◌, codes, if◌then◌else◌}
use Rattle.std.specs.Fmt.{decimal}

-- of millionths that are less than one, the first so many digits; none stands behind the last that
-- isn't 0
unfoldable pub digits_of_millionths : ℕ → ℕ → List ℕ
digits_of_millionths zero n = []
digits_of_millionths (suc places) n =
    if n == 0 then []
    else (48 + n * 10 / 1000000) ∷ digits_of_millionths places (n * 10 % 1000000)

-- a point and the digits behind it; of no millionths there is no point
abbrev pub fraction_text : ℕ → List ℕ
fraction_text n = if n == 0 then [] else codes "." ++ digits_of_millionths 6 n

-- a number of millionths that isn't below 0, as a decimal number
abbrev pub magnitude_text : ℕ → List ℕ
magnitude_text n = decimal (n / 1000000) ++ fraction_text (n % 1000000)

-- a number of millionths as a decimal number: digits, and behind a point at most six more, the last
-- of which isn't 0
abbrev pub decimal_text : ℤ → List ℕ
decimal_text (pos n) = magnitude_text n
decimal_text (negsuc n) = codes "-" ++ magnitude_text (suc n)
