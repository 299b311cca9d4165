use Rattle.std.proofs.Common.{◌∙◌, ◌++◌, ℕ, Bor, List, map, ap}
use Rattle.lavzimo_words.specs.Pieces.{pieces_seen}
use Rattle.lavzimo_words.proofs.PieceFacts.{in-role, in_role}
use Rattle.lavzimo_words.proofs.pieces.push_value.Goals as goal

pub returns : goal.returns
returns c =
    c.in_ok-push_texts.ensures
    ∙ ap (λ ys. pieces_seen c.args.pieces.now.items ++ ys)
    (in-role c.args.role c.deref.result.now
    ∙ ap (map (in_role c.args.role)) (ap (map (λ (x : Bor (List ℕ)). x.now)) c.deref.ensures.value ∙ c.in_ok-texts.ensures))
