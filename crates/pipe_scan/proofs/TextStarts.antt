-- Whether a text has a quote, and where its records begin.
use Rattle.std.proofs.Common.{◌≡◌, ◌≤◌, ◌<◌, ◌==◌, ◌&&◌, not, ℕ, zero, suc, List, [], ◌∷◌, length, drop, get_or, Bool, true, false, refl, arith}
use Rattle.std.proofs.lemmas.Bool.{ne_eqb}
use Rattle.csv.specs.Reading.{strip_bom}
use Rattle.pipe_scan.specs.Lines.{has_no_quote}

-- a byte that is no quote, before a text without one
plain_by : (b : Bool) (rest : Bool) → (b ≡ true → ⊥) → rest ≡ true → (not b && rest) ≡ true
plain_by true rest n e = absurd (n refl)
plain_by false rest n e = e

-- no quote at any place
pub plain_nowhere : (xs : List ℕ) → ((k : ℕ) → 0 ≤ k → k < length xs → (get_or xs k 0 == 34) ≡ true → ⊥) → has_no_quote xs ≡ true
plain_nowhere [] n = refl
plain_nowhere (c ∷ cs) n = plain_by (c == 34) (has_no_quote cs) (n 0 (omega arith) (omega arith)) (plain_nowhere cs (λ k a b e. n (suc k) (omega arith) (omega (arith, b)) e))

-- a byte that is a quote
quoted_by : (b rest : Bool) → b ≡ true → (not b && rest) ≡ false
quoted_by b rest e = rw e refl

-- a byte before a text with a quote
later_by : (b rest : Bool) → rest ≡ false → (not b && rest) ≡ false
later_by true rest e = refl
later_by false rest e = e

-- a quote at some place
pub quoted_at : (xs : List ℕ) (k : ℕ) → k < length xs → (get_or xs k 0 == 34) ≡ true → has_no_quote xs ≡ false
quoted_at [] k l e = absurd (omega (arith, l))
quoted_at (c ∷ cs) zero l e = quoted_by (c == 34) (has_no_quote cs) e
quoted_at (c ∷ cs) (suc k) l e = later_by (c == 34) (has_no_quote cs) (quoted_at cs k (omega (arith, l)) e)

-- no byte order mark
pub no_bom_short : (xs : List ℕ) → length xs < 3 → strip_bom xs ≡ xs
unfolding strip_bom
no_bom_short [] l = refl
no_bom_short (a ∷ []) l = refl
no_bom_short (a ∷ b ∷ []) l = refl
no_bom_short (a ∷ b ∷ c ∷ rest) l = absurd (omega (arith, l))

-- the first byte is another
pub no_bom_0 : (xs : List ℕ) → (get_or xs 0 0 ≡ 0xEF → ⊥) → strip_bom xs ≡ xs
unfolding strip_bom
no_bom_0 [] n = refl
no_bom_0 (a ∷ []) n = refl
no_bom_0 (a ∷ b ∷ []) n = refl
no_bom_0 (a ∷ b ∷ c ∷ rest) n = rw (ne_eqb a 0xEF n) refl

-- the second byte is another
pub no_bom_1 : (xs : List ℕ) → get_or xs 0 0 ≡ 0xEF → (get_or xs 1 0 ≡ 0xBB → ⊥) → strip_bom xs ≡ xs
unfolding strip_bom
no_bom_1 [] e n = refl
no_bom_1 (a ∷ []) e n = refl
no_bom_1 (a ∷ b ∷ []) e n = refl
no_bom_1 (a ∷ b ∷ c ∷ rest) e n = rw (e, ne_eqb b 0xBB n) refl

-- the third byte is another
pub no_bom_2 : (xs : List ℕ) → get_or xs 0 0 ≡ 0xEF → get_or xs 1 0 ≡ 0xBB → (get_or xs 2 0 ≡ 0xBF → ⊥) → strip_bom xs ≡ xs
unfolding strip_bom
no_bom_2 [] e f n = refl
no_bom_2 (a ∷ []) e f n = refl
no_bom_2 (a ∷ b ∷ []) e f n = refl
no_bom_2 (a ∷ b ∷ c ∷ rest) e f n = rw (e, f, ne_eqb c 0xBF n) refl

-- a byte order mark
pub bom : (xs : List ℕ) → 3 ≤ length xs → get_or xs 0 0 ≡ 0xEF → get_or xs 1 0 ≡ 0xBB → get_or xs 2 0 ≡ 0xBF → strip_bom xs ≡ drop 3 xs
unfolding strip_bom
bom [] l e f g = refl
bom (a ∷ []) l e f g = absurd (omega (arith, l))
bom (a ∷ b ∷ []) l e f g = absurd (omega (arith, l))
bom (a ∷ b ∷ c ∷ rest) l e f g = rw (e, f, g) refl
