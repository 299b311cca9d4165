-- The bytes that a reader of plain text tells apart.
use Rattle.std.proofs.Common.{inl, inr, ◌≡◌, ◌==◌, ◌⊎◌, ◌≢◌, ℕ, false}
use Rattle.std.proofs.lemmas.Bool.{cases_eq, ne_eqb}

-- a byte that is only read
pub record IsOther (c : ℕ) : Type 0 where
  pub comma : (c == 44) ≡ false
  pub quote : (c == 34) ≡ false
  pub cr : (c == 13) ≡ false
  pub lf : (c == 10) ≡ false

-- what a byte is
pub data Kind (c : ℕ) : Type 0 where
  comma : c ≡ 44 → Kind c
  quote : c ≡ 34 → Kind c
  cr : c ≡ 13 → Kind c
  lf : c ≡ 10 → Kind c
  other : IsOther c → Kind c

-- by which of the four bytes it is
kind_by : (c : ℕ) → (c ≡ 44) ⊎ (c ≢ 44) → (c ≡ 34) ⊎ (c ≢ 34) → (c ≡ 13) ⊎ (c ≢ 13) → (c ≡ 10) ⊎ (c ≢ 10) → Kind c
kind_by c (inl e) q r l = comma e
kind_by c (inr n) (inl e) r l = quote e
kind_by c (inr n) (inr m) (inl e) l = cr e
kind_by c (inr n) (inr m) (inr k) (inl e) = lf e
kind_by c (inr n) (inr m) (inr k) (inr j) = other (record { comma = ne_eqb c 44 n; quote = ne_eqb c 34 m; cr = ne_eqb c 13 k; lf = ne_eqb c 10 j })

-- each byte is of one of them
pub kind : (c : ℕ) → Kind c
kind c = kind_by c (cases_eq c 44) (cases_eq c 34) (cases_eq c 13) (cases_eq c 10)
