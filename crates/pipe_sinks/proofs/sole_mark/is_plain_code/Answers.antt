use Rattle.std.proofs.Common.{◌∙◌, ◌+◌, ◌-◌, ◌∷◌, ◌&&◌, [], Bool, arith, ap, drop, length, refl, sym, take}
use Rattle.std.specs.Str.{bytes_eq}
use Rattle.pipe_sinks.proofs.MarkedFacts.{plain-length, plain-read}
use Rattle.pipe_sinks.proofs.sole_mark.is_plain_code.Goals as goal

pub returns-then-code-end : goal.returns-then-code-end
returns-then-code-end c = plain-length c.args.code.now c.args.text.now c.requires c.if-code-end.true

pub returns-then-eq : goal.returns-then-eq
returns-then-eq c =
    ap (λ (z : Bool). z && c.eq-then-eq.result) (sym c.if-eq.true)
    ∙ plain-read c.args.code.now c.args.text.now c.requires c.eq.result c.eq-then-eq.result _ _ (sym c.begins.ensures ∙ c.if-not-begins.false) c.eq.ensures c.eq-then-eq.ensures (omega arith) (omega arith)

pub returns-else-eq : goal.returns-else-eq
returns-else-eq c =
    let end = length c.args.text.now + 1 in
    let y : Bool = bytes_eq (take (length c.args.code.now - end) (drop end c.args.code.now)) (0 ∷ 0 ∷ []) in
    c.if-eq.false
    ∙ ap (λ (z : Bool). z && y) (sym c.if-eq.false)
    ∙ plain-read c.args.code.now c.args.text.now c.requires c.eq.result y _ end (sym c.begins.ensures ∙ c.if-not-begins.false) c.eq.ensures refl (omega arith) refl
