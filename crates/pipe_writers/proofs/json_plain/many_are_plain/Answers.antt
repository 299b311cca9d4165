use Rattle.std.proofs.Common.{◌∙◌, ◌+◌, ◌&&◌, ◌-◌, ℕ, List, Bool, drop, length, sym, ap, arith}
use Rattle.pipe_writers.specs.PlainBytes.{are_plain}
use Rattle.pipe_writers.proofs.PlainFacts.{eight_first, last_eight}
use Rattle.pipe_writers.proofs.json_plain.many_are_plain.Goals as goal

pub loop-at-preserved : goal.loop-at-preserved
loop-at-preserved c =
    let bytes : List ℕ = c.args.bytes.now in
    let at : ℕ = c.loop-at.at in
    let first = sym c.eight_are_plain.ensures ∙ c.if-not-eight_are_plain.false in
    record {
      within = omega arith;
      left = c.loop-at.invariant.left ∙ eight_first bytes at ∙ ap (λ (b : Bool). b && are_plain (drop (at + 8) bytes)) first;
    }

pub returns : goal.returns
returns c =
    let bytes : List ℕ = c.args.bytes.now in
    c.eight_are_plain-2.ensures ∙ last_eight bytes (length bytes - 8) c.loop-at.at (omega (arith, c.requires)) (omega (arith, c.loop-at-test.false)) c.loop-at.invariant.left
