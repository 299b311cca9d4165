-- The number so far has the bytes that were read.
use Rattle.std.proofs.Common.{◌≡◌, ◌<◌, ◌^◌, ℕ, List, take}
use Rattle.std.specs.Int.{bytes_high_first}
use Rattle.pipe_spill.proofs.read_number.read_bytes.Given as goal

pub record IsRead (front : List ℕ) (number i : ℕ) : Type 0 where
  pub range : number < 256 ^ i
  pub bytes : bytes_high_first i number ≡ take i front

abbrev pub invariant-loop-byte : goal.invariant-loop-byte
invariant-loop-byte l = IsRead l.front l.number l.byte-index
