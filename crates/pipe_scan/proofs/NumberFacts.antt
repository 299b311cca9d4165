-- Digits one at a time, and short numbers.
use Rattle.std.proofs.Common.{get_or, option_map, ◌≡◌, ◌∙◌, ◌≤◌, ◌<◌, ◌+◌, ◌-◌, ◌*◌, ◌%◌, ◌^◌, ◌==◌, ℕ, ℤ, List, [], ◌∷◌, length, Bool, true, false, Option, Some, None, if◌then◌else◌, refl, ap, arith, nat_le}
use mir.Val.{bool_byte}
use Rattle.std.specs.List.{fold, list_all}
use Rattle.std.specs.Char.{is_ascii_digit}
use Rattle.std.proofs.Math.Nat.{pow-le-pow_right}
use Rattle.std.proofs.lemmas.Bool.{and_parts, eqb-true, le-leb, leb-true, ne_eqb}
use Rattle.std.proofs.lemmas.Bool.Decides.{nat_tests}
use Rattle.std.proofs.lemmas.Option.{none-some}
use Rattle.pipe_scan.specs.Numbers.{number_of, read_digits, read_few_digits, read_number, read_short_number, signed}
use Rattle.pipe_scan.specs.Records.{between}
use Rattle.pipe_scan.proofs.ScanFacts.{between_first}

-- digits after others, as the number of them all
abbrev pub digits_after : ℕ → List ℕ → Option ℕ
digits_after n digits = if list_all is_ascii_digit digits then Some (fold (λ m d. m * 10 + (d - 48)) n digits) else None

-- below 18 digits there is room for one more in 64 bits
pub room_for_digit : (i n : ℕ) → i < 18 → n < 10 ^ i → n * 10 + 10 ≤ 10 ^ 18
room_for_digit i n h l = let p : 10 ^ i ≤ 10 ^ 17 = pow-le-pow_right {n = 10} (omega arith) {i = i} {j = 17} (omega arith) in omega arith

-- up to 18 digits are below 10^18
pub below_most : (i n : ℕ) → i ≤ 18 → n < 10 ^ i → n < 10 ^ 18
below_most i n h l = let p : 10 ^ i ≤ 10 ^ 18 = pow-le-pow_right {n = 10} (omega arith) {i = i} {j = 18} h in omega (arith, p, l)

-- a byte that is a digit
pub digit_byte : (c : ℕ) → c < 256 → (c + 208) % 256 ≤ 9 → (48 ≤ c) × (c ≤ 57) × ((c + 208) % 256 ≡ c - 48)
digit_byte c l h = (omega (arith, l, h), omega (arith, l, h), omega (arith, l, h))

-- such a byte passes the test
pub is_digit : (c : ℕ) → 48 ≤ c → c ≤ 57 → is_ascii_digit c ≡ true
is_digit c l h = grind (arith, nat_tests)

-- digits read as their number
pub digits_read : (ds : List ℕ) → 0 < length ds → list_all is_ascii_digit ds ≡ true → read_digits ds ≡ Some (number_of ds)
digits_read [] l a = absurd (omega (arith, l))
digits_read (d ∷ ds) l a = rw a refl

-- digits that are few
few_by : (b : Bool) (o : Option ℕ) (m : ℕ) → (if b then o else None) ≡ Some m → o ≡ Some m
few_by true o m e = e
few_by false o m e = absurd (none-some m e)

-- few digits are read as any are
few-digits : (ds : List ℕ) (m : ℕ) → read_few_digits ds ≡ Some m → read_digits ds ≡ Some m
few-digits ds m e = few_by (nat_le (length ds) 18) (read_digits ds) m e

-- few digits, as any are read
pub digits-few : (ds : List ℕ) (m : ℕ) → length ds ≤ 18 → read_digits ds ≡ Some m → read_few_digits ds ≡ Some m
digits-few ds m l e = rw (le-leb (length ds) 18 l) e

-- digits don't begin with a sign
unsigned_by : (d : ℕ) (ds : List ℕ) (m : ℕ) (b : Bool) → list_all is_ascii_digit (d ∷ ds) ≡ b → read_digits (d ∷ ds) ≡ Some m → (d == 43) ≡ false
unsigned_by d ds m true a e =
    let h = and_parts (is_ascii_digit d) (list_all is_ascii_digit ds) a in
    let low : 48 ≤ d = leb-true 48 d (and_parts (nat_le 48 d) (nat_le d 57) h.0).0 in
    ne_eqb d 43 (omega (arith, low))
unsigned_by d ds m false a e = absurd (none-some m (rw a at e))

-- a number that is there comes of digits that are
of_digits : (b : Bool) (o : Option ℕ) (n : ℤ) → option_map (signed b) o ≡ Some n → (m : ℕ) × (o ≡ Some m) × (signed b m ≡ n)
of_digits b None n e = absurd (none-some n e)
of_digits b (Some m) n e = (m, refl, cc e)

-- a short number, by whether a minus is first
short_by : (c : ℕ) (cs : List ℕ) (n : ℤ) (b : Bool) → (c == 45) ≡ b → option_map (signed b) (read_few_digits (if b then cs else c ∷ cs)) ≡ Some n → read_number (c ∷ cs) ≡ Some n
short_by c cs n true h e =
    let m = of_digits true (read_few_digits cs) n e in
    let is : c ≡ 45 = eqb-true c 45 h in
    let r : read_digits cs ≡ Some m.0 = few-digits cs m.0 m.1 in
    rw (is, r) (ap Some m.2)
short_by c cs n false h e =
    let m = of_digits false (read_few_digits (c ∷ cs)) n e in
    let r : read_digits (c ∷ cs) ≡ Some m.0 = few-digits (c ∷ cs) m.0 m.1 in
    rw (unsigned_by c cs m.0 (list_all is_ascii_digit (c ∷ cs)) refl r, h, r) (ap Some m.2)

-- a short number is a number
pub short-number : (field : List ℕ) (n : ℤ) → read_short_number field ≡ Some n → read_number field ≡ Some n
short-number [] n e = absurd (none-some n e)
short-number (c ∷ cs) n e = short_by c cs n (c == 45) refl e

-- a field that isn't empty, by its first byte and the digits behind the sign
field_by : (c : ℕ) (cs : List ℕ) (b : Bool) (o : Option ℕ) → (c == 45) ≡ b → o ≡ read_few_digits (if b then cs else c ∷ cs) → option_map (signed b) o ≡ read_short_number (c ∷ cs)
field_by c cs b o h e = rw (h, e) refl

-- the digits of a field in a text begin behind its sign
field_digits : (text : List ℕ) (low high : ℕ) (b : Bool) → low < high → high ≤ length text
    → between text (low + bool_byte b) high ≡ (if b then between text (low + 1) high else get_or text low 0 ∷ between text (low + 1) high)
field_digits text low high true l h = refl
field_digits text low high false l h = let z : low + 0 ≡ low = omega arith in rw z (between_first text low high l h)

-- the number of a field in a text
pub field-number : (text : List ℕ) (low high : ℕ) (o : Option ℕ) → low < high → high ≤ length text
    → o ≡ read_few_digits (between text (low + bool_byte (get_or text low 0 == 45)) high)
    → option_map (signed (get_or text low 0 == 45)) o ≡ read_short_number (between text low high)
field-number text low high o l h e =
    let b : Bool = get_or text low 0 == 45 in
    rw (between_first text low high l h) (field_by (get_or text low 0) (between text (low + 1) high) b o refl (e ∙ ap read_few_digits (field_digits text low high b l h)))

-- a sign takes a byte at most
pub sign_byte : (b : Bool) → bool_byte b ≤ 1
sign_byte true = omega arith
sign_byte false = omega arith
