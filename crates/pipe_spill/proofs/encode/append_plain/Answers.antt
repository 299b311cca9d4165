-- The text and its end follow.
use Rattle.std.proofs.Common.{◌≡◌, ◌++◌, ◌∷◌, [], append_assoc, arith}
use Rattle.std.proofs.lemmas.Grind.{common_steps}
use Rattle.pipe_columns.specs.Key.{text_code}
use Rattle.pipe_spill.proofs.Escapes.{plain}
use Rattle.pipe_spill.proofs.encode.append_plain.Goals as goal

pub returns-clause-ok : goal.returns-clause-ok
returns-clause-ok c =
    let body : text_code c.args.text.now ≡ c.args.text.now ++ 0 ∷ 0 ∷ [] = plain c.args.text.now c.requires in
    rw (body, ← append_assoc c.args.buffer.now.items c.args.text.now (0 ∷ 0 ∷ [])) (grind (arith, common_steps))
