use Rattle.std.proofs.Common.{◌≡◌, ◌++◌, map, take}
use Rattle.lavzimo_words.specs.Pieces.{pieces_seen}
use Rattle.lavzimo_words.proofs.pieces.push_texts.Given as goal

-- the pieces so far, behind those from before
abbrev pub invariant-loop-text : goal.invariant-loop-text
invariant-loop-text l = pieces_seen l.pieces.items ≡ pieces_seen l.initial.pieces.items ++ map (λ x. (l.role, x.now)) (take l.text-index l.texts)
