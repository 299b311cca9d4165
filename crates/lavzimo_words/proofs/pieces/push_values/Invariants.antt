use Rattle.std.proofs.Common.{◌≡◌, ◌++◌, map, take}
use Rattle.std.specs.Prelude.{◌==◌, flat_map}
use Rattle.std.specs.List.{slice_split}
use Rattle.lavzimo_words.specs.Pieces.{pieces_seen}
use Rattle.lavzimo_words.proofs.pieces.push_values.Given as goal

-- the pieces so far, behind those from before
abbrev pub invariant-loop-value : goal.invariant-loop-value
invariant-loop-value l =
    pieces_seen l.pieces.items
    ≡ pieces_seen l.initial.pieces.items ++ flat_map (λ v. map (λ p. (l.role, p)) (slice_split (λ b. b == 44) v.now)) (take l.value-index l.values)
