-- The text after what was read, and the bytes after it, are those of the whole.
use Rattle.std.proofs.Common.{◌≡◌, ◌-◌, ◌≤◌, ℕ, List, [], length, drop}
use Rattle.pipe_spill.proofs.Escapes.{read_on}
use Rattle.pipe_spill.proofs.read_text.unescape.Given as goal

pub record IsReadTo (body text : List ℕ) (at : ℕ) : Type 0 where
  pub within : at ≤ length body
  pub same : read_on text (drop at body) ≡ read_on [] body

abbrev pub invariant-loop-at : goal.invariant-loop-at
invariant-loop-at l = IsReadTo l.body l.text.items l.at

abbrev pub decreases-loop-at : goal.decreases-loop-at
decreases-loop-at l = length l.body - l.at
