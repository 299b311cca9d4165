-- Numbers as texts write them.
use Rattle.std.proofs.Common.{◌≡◌, ◌∙◌, ◌<◌, ◌≤◌, ◌^◌, ◌&&◌, ℕ, Bool, true, false, cond, List, [], ◌∷◌, length, nat_le, nat_lt, Option, Some, None, refl, sym, ap, lt-ltb, arith}
use Rattle.std.specs.List.{list_all}
use Rattle.std.specs.Char.{digit_value}
use Rattle.std.specs.Str.Parse.{AllDigits, IsNumeral, digits_value, without_leading_plus}
use Rattle.std.proofs.lemmas.Bool.Decides.{nat_tests}
use Rattle.clap.proofs.WalkLemmas.{both}
use Rattle.lavzimo_words.specs.Settings.{is_number, number_in, number_within}

digits_pass : (ds : List ℕ) → AllDigits 10 ds → list_all (λ d. nat_lt (digit_value d) 10) ds ≡ true
digits_pass [] h = refl
digits_pass (d ∷ ds) h = rw (lt-ltb (digit_value d) 10 h.0) (digits_pass ds h.1)

digits_from : (ds : List ℕ) → list_all (λ d. nat_lt (digit_value d) 10) ds ≡ true → AllDigits 10 ds
digits_from [] e = tt
digits_from (d ∷ ds) e =
    let parts = both _ _ e in
    (lt_from _ _ parts.0, digits_from ds parts.1)
  where
    lt_from : (a b : ℕ) → nat_lt a b ≡ true → a < b
    lt_from a b h = grind (arith, nat_tests, h)

both-true : (a b : Bool) → a ≡ true → b ≡ true → (a && b) ≡ true
both-true true b h k = k
both-true false b h k = h

le_true : (a b : ℕ) → a ≤ b → nat_le a b ≡ true
le_true a b h = grind (arith, nat_tests, h)

all-true : (a b c : Bool) → a ≡ true → b ≡ true → c ≡ true → (a && (b && c)) ≡ true
all-true true true c h k l = l
all-true true false c h k l = k
all-true false b c h k l = h

not-both : (a b : Bool) → b ≡ false → (a && b) ≡ false
not-both true b h = h
not-both false b h = refl

-- what a text writes, by whether it is a number within its bounds
abbrev by-test : List ℕ → Bool → Option ℕ
by-test text b = cond b (Some (number_in text)) None

-- what a text's digits are, and what they write
abbrev IsRead : List ℕ → Type 0
IsRead text = IsNumeral 10 (without_leading_plus text) × (digits_value 10 (without_leading_plus text) < 2 ^ 64)

module _ (low high : ℕ) (text : List ℕ) where
  -- a number that was read
  numeral : IsRead text → is_number text ≡ true
  numeral h =
      both-true (nat_lt 0 (length (without_leading_plus text))) (list_all (λ d. nat_lt (digit_value d) 10) (without_leading_plus text))
      (lt-ltb 0 (length (without_leading_plus text)) h.0.0) (digits_pass (without_leading_plus text) h.0.1)

  -- one within its bounds
  pub within-some : (n : ℕ) → IsRead text × (n ≡ digits_value 10 (without_leading_plus text)) → low ≤ n → n ≤ high → Some n ≡ number_within low high text
  within-some n h above below =
      let same : n ≡ number_in text = h.1 in
      let first : nat_le low n ≡ true = le_true low n above in
      let last : nat_le n high ≡ true = le_true n high below in
      ap Some same
      ∙ sym (ap (by-test text) (all-true (is_number text) (nat_le low (number_in text)) (nat_le (number_in text) high) (numeral h.0) (ap (nat_le low) (sym same) ∙ first) (ap (λ m. nat_le m high) (sym same) ∙ last)))

  none-by : (IsRead text → ⊥) → high < 2 ^ 64 → (a b c : Bool) → is_number text ≡ a → nat_le (number_in text) high ≡ c → None ≡ by-test text (a && (b && c))
  none-by h few false b c x z = refl
  none-by h few true false c x z = refl
  none-by h few true true false x z = refl
  none-by h few true true true x z =
      let parts = both (nat_lt 0 (length (without_leading_plus text))) (list_all (λ d. nat_lt (digit_value d) 10) (without_leading_plus text)) x in
      let some : 0 < length (without_leading_plus text) = grind (arith, nat_tests, parts.0) in
      let small : number_in text ≤ high = grind (arith, nat_tests, z) in
      absurd (h ((some, digits_from (without_leading_plus text) parts.1), omega (arith, small, few)))

  -- what is none
  pub within-none : (IsRead text → ⊥) → high < 2 ^ 64 → None ≡ number_within low high text
  within-none h few = none-by h few (is_number text) (nat_le low (number_in text)) (nat_le (number_in text) high) refl refl
