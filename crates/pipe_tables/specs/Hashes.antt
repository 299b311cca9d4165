-- Of the proofs alone: a code has one hash.
use Rattle.std.specs.Prelude.{◌≡◌, ℕ, List}
use Rattle.std.proofs.Common.{◌∙◌, sym}
use Rattle.pipe_columns.specs.declared.data_type.DataType.{DataType}
use Rattle.pipe_chains.specs.Hash.{hash_of}

pub hash_once : (types : List DataType) (code : List ℕ) (a b : ℕ) → a ≡ hash_of code → b ≡ hash_of code → a ≡ b
hash_once types code a b p q = p ∙ sym q
