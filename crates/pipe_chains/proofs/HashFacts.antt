-- Bytes that are hashed piece by piece.
use Rattle.std.proofs.Common.{◌≡◌, ℕ, List, [], ◌∷◌, ◌++◌, fold, refl}
use Rattle.std.specs.Hash.DefaultHasher.{write, write_byte}
use Rattle.std.specs.declared.hash.DefaultHasher.{DefaultHasher}

fold-pieces : (s : DefaultHasher) (a b : List ℕ) → fold write_byte s (a ++ b) ≡ fold write_byte (fold write_byte s a) b
fold-pieces s [] b = refl
fold-pieces s (x ∷ a) b = fold-pieces (write_byte s x) a b

-- one piece behind another
pub write-pieces : (s : DefaultHasher) (a b : List ℕ) → write s (a ++ b) ≡ write (write s a) b
unfolding write
write-pieces s a b = fold-pieces s a b
