-- Of the proofs alone: the heads of chains.
use Rattle.std.specs.Prelude.{◌≡◌, ◌-◌, ℕ, bit_and, fold, length, slice_index}
use Rattle.std.specs.Hash as fed
use Rattle.std.specs.Hash.FoldHasher.{finish, write}
use Rattle.std.specs.declared.hash.FoldHasher.{FoldHasher}
use Rattle.pipe_chains.specs.declared.heads.Heads.{Heads}

-- the slot of a lead among so many heads
unfoldable pub slot_in : FoldHasher → ℕ → ℕ → ℕ
slot_in start count lead = bit_and (finish (fold write start (fed.u64 lead))) (count - 1)

-- the slot of a lead
abbrev pub slot_of : Heads → ℕ → ℕ
slot_of heads lead = slot_in heads.start (length heads.told.items) lead

-- what is told of a slot
abbrev pub told_at : Heads → ℕ → ℕ
told_at heads slot = slice_index heads.told.items slot

-- no head tells an entry
abbrev pub AreClear : Heads → Type 0
AreClear heads = (slot : ℕ) → told_at heads slot ≡ 0
