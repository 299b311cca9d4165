-- The first bytes of a list.
use Rattle.std.proofs.Common.{◌<◌, ℕ, zero, suc, List, [], ◌∷◌, take, get_or, arith}

-- they are bytes where all are
pub small_front : (bytes : List ℕ) → ((i : ℕ) → get_or bytes i 0 < 256) → (n i : ℕ) → get_or (take n bytes) i 0 < 256
small_front bytes h zero i = omega arith
small_front [] h (suc n) i = omega arith
small_front (b ∷ bytes) h (suc n) zero = h 0
small_front (b ∷ bytes) h (suc n) (suc i) = small_front bytes (λ k. h (suc k)) n i
