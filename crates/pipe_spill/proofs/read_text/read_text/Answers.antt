-- The bytes that were read are those of any text with this code, and are no UTF-8.
use Rattle.std.proofs.Common.{refl, sym, ◌∙◌, subst}
use Rattle.std.specs.Prelude.{IsUtf8}
use Rattle.pipe_spill.proofs.CodeOrder.{text_once}
use Rattle.pipe_spill.proofs.read_text.read_text.Goals as goal

pub returns-in-None-clause-not_a_key : goal.returns-in-None-clause-not_a_key
returns-in-None-clause-not_a_key c = λ h text rest u e.
    let once = text_once text c.in_ok-bytes.bytes.items rest c.in_ok-bytes.rest.now (e ∙ sym c.in_ok-bytes.ensures.code) in
    c.in-None.ensures.none refl (subst IsUtf8 once u)
