use Rattle.std.proofs.Common.{◌≡◌, ◌≤◌, ℕ, List, ◌∷◌, length}
use Rattle.pipe_source.specs.Quoted.{AreTextsOf}
use Rattle.pipe_source.proofs.quoted_rows.gather.Given as goal

-- the texts so far stand behind the end of a line, the first of them first
abbrev pub invariant-loop : goal.invariant-loop
invariant-loop l = record {
  within : l.low ≤ length l.text;
  texts : AreTextsOf l.text l.low l.bytes.items l.places.items;
  first : (more : List (ℕ × ℕ)) × (l.places.items ≡ (l.start, l.end) ∷ more);
  line : (more : List ℕ) × (l.bytes.items ≡ 10 ∷ more);
}
