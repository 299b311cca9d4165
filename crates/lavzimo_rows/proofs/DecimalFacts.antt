-- Digits behind a point, written one by one.
use Rattle.std.proofs.Common.{◌≡◌, ◌∙◌, ◌+◌, ◌-◌, ◌*◌, ◌/◌, ◌%◌, ◌<◌, ◌++◌, ◌∷◌, [], ◌==◌, ℕ, zero, suc, false, List, refl, sym, ap, arith, append-nil, append_assoc}
use Rattle.std.proofs.lemmas.Bool.{cond-false}
use Rattle.lavzimo_rows.specs.Decimal.{digits_of_millionths}

-- of nothing there are no digits
digits_none : (places : ℕ) → digits_of_millionths places 0 ≡ []
unfolding digits_of_millionths
digits_none zero = refl
digits_none (suc places) = refl

-- the next digit
digits_next : (places n : ℕ) → (n == 0) ≡ false
    → digits_of_millionths (suc places) n ≡ (48 + n * 10 / 1000000) ∷ digits_of_millionths places (n * 10 % 1000000)
unfolding digits_of_millionths
digits_next places n some = cond-false _ _ _ some

-- where nothing is left, the digits are written
pub digits_written : (old text : List ℕ) (places rest : ℕ) → text ++ digits_of_millionths places rest ≡ old → rest ≡ 0 → text ≡ old
digits_written old text places rest left none =
    let e : digits_of_millionths places rest ≡ [] = ap (digits_of_millionths places) none ∙ digits_none places in
    sym (append-nil text) ∙ ap (λ ds. text ++ ds) (sym e) ∙ left

-- behind the last place there are no digits
no_place : (n : ℕ) → digits_of_millionths 0 n ≡ []
unfolding digits_of_millionths
no_place n = refl

-- so they are written there
pub digits_ended : (old text : List ℕ) (places rest : ℕ) → text ++ digits_of_millionths places rest ≡ old → places ≡ 0 → text ≡ old
digits_ended old text places rest left none =
    let e : digits_of_millionths places rest ≡ [] = ap (λ p. digits_of_millionths p rest) none ∙ no_place rest in
    sym (append-nil text) ∙ ap (λ ds. text ++ ds) (sym e) ∙ left

-- one digit more is written
pub digit_written : (old text new : List ℕ) (written rest : ℕ) → text ++ digits_of_millionths (6 - written) rest ≡ old → written < 6 → (rest == 0) ≡ false
    → new ≡ text ++ (48 + rest * 10 / 1000000) ∷ []
    → new ++ digits_of_millionths (6 - (written + 1)) (rest * 10 % 1000000) ≡ old
digit_written old text new written rest left within some made =
    let places : 6 - written ≡ suc (6 - (written + 1)) = omega arith in
    let next : digits_of_millionths (6 - written) rest ≡ (48 + rest * 10 / 1000000) ∷ digits_of_millionths (6 - (written + 1)) (rest * 10 % 1000000) = ap (λ p. digits_of_millionths p rest) places ∙ digits_next (6 - (written + 1)) rest some in
    ap (λ bs. bs ++ digits_of_millionths (6 - (written + 1)) (rest * 10 % 1000000)) made
    ∙ append_assoc text ((48 + rest * 10 / 1000000) ∷ []) (digits_of_millionths (6 - (written + 1)) (rest * 10 % 1000000))
    ∙ ap (λ bs. text ++ bs) (sym next) ∙ left
