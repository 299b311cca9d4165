-- Of the proofs alone: the bytes of a key, which stand in its row where they are few.
use Rattle.std.specs.Prelude.{◌≤◌, ℕ, List, take, ⊤}
use Rattle.pipe_spill.specs.declared.key_bytes.Bytes.{Bytes}
use Rattle.pipe_spill.specs.declared.key_bytes.Bytes.TheVariants as kept
use Rattle.pipe_spill.specs.declared.key_bytes.TheConstants.{MOST_SHORT}

-- the bytes, wherever they stand
abbrev pub bytes_of : Bytes → List ℕ
bytes_of (kept.Short len bytes) = take len bytes
bytes_of (kept.Long items) = items.items

-- no more are used than there is room for
abbrev pub AreWithin : Bytes → Type 0
AreWithin (kept.Short len bytes) = len ≤ MOST_SHORT
AreWithin (kept.Long items) = ⊤
