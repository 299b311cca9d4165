-- Of the proofs alone: the hashes of some bytes.
use Rattle.std.specs.Prelude.{ℕ, List, Option, Some, None}
use Rattle.std.specs.Hash.DefaultHasher as sip
use Rattle.std.specs.Hash.FoldHasher.{finish, initial, write}
use Rattle.std.specs.RandomState.{initial_hasher}
use Rattle.std.specs.declared.hash.DefaultHasher.{DefaultHasher}
use Rattle.std.specs.declared.hash.RandomState.{RandomState}

-- what the hasher of the standard library gives for the bytes
unfoldable pub hash_of : List ℕ → ℕ
hash_of bytes = finish (write initial bytes)

-- SipHash as it begins, under keys or under the fixed ones
abbrev pub secret_start : Option RandomState → DefaultHasher
secret_start None = sip.initial
secret_start (Some keys) = initial_hasher keys

-- what SipHash gives for the bytes
unfoldable pub secret_hash_of : Option RandomState → List ℕ → ℕ
secret_hash_of keys bytes = sip.finish (sip.write (secret_start keys) bytes)
