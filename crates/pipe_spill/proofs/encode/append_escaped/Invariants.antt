-- What is written, and the code of the bytes that are left, make the code of the text.
use Rattle.std.proofs.Common.{◌≡◌, ◌++◌, drop, length, take, List, ℕ}
use Rattle.pipe_columns.specs.Key.{text_code}
use Rattle.pipe_spill.proofs.encode.append_escaped.Given as goal

pub record Written (old new text : List ℕ) (i : ℕ) : Type 0 where
  pub front : take (length old) new ≡ old
  pub rest : new ++ text_code (drop i text) ≡ old ++ text_code text

abbrev pub invariant-loop-byte : goal.invariant-loop-byte
invariant-loop-byte l = Written l.fn.buffer.items l.buffer.items l.text l.byte-index
