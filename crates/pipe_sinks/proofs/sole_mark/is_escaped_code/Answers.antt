use Rattle.std.proofs.Common.{◌∙◌, ◌+◌, get_or, sym, ap}
use Rattle.pipe_sinks.specs.Marks.{begins}
use Rattle.pipe_sinks.proofs.MarkedFacts.{read-plain, read-zero, rest-of, zero-differs}
use Rattle.pipe_sinks.proofs.sole_mark.is_escaped_code.Goals as goal
use Rattle.pipe_sinks.proofs.sole_mark.is_escaped_code.Goals.{then-byte-eq0+else-not-begins-3, else-byte-eq0}

pub returns-then-not-begins-3 : goal.returns-then-not-begins-3
returns-then-not-begins-3 c =
    zero-differs c.args.code.now c.args.text.now c.loop-byte.at c.loop-byte.byte-index c.loop-byte.invariant c.loop-byte-test.true (ap (begins (get_or c.args.text.now c.loop-byte.byte-index 0)) (sym (rest-of c.loop-byte.at c.args.code.now)) ∙ sym c.begins-in-loop-byte.ensures ∙ c.if-not-begins-2.false) c.if-byte-eq0.true
    (ap (begins 1) (sym (rest-of (c.loop-byte.at + 1) c.args.code.now)) ∙ sym c.begins-then-byte-eq0.ensures ∙ c.if-not-begins-3.true)

pub loop-byte-preserved : goal.loop-byte-preserved
loop-byte-preserved c = elim c.if-byte-eq0.branch [
  | then-byte-eq0+else-not-begins-3 w ↦ rw w.at-is
      (read-zero c.args.code.now c.args.text.now c.loop-byte.at c.loop-byte.byte-index c.loop-byte.invariant c.loop-byte-test.true (ap (begins (get_or c.args.text.now c.loop-byte.byte-index 0)) (sym (rest-of c.loop-byte.at c.args.code.now)) ∙ sym c.begins-in-loop-byte.ensures ∙ c.if-not-begins-2.false) w.if-byte-eq0.true
      (ap (begins 1) (sym (rest-of (c.loop-byte.at + 1) c.args.code.now)) ∙ sym w.begins-then-byte-eq0.ensures ∙ w.if-not-begins-3.false))
  | else-byte-eq0 w ↦ rw w.at-is
      (read-plain c.args.code.now c.args.text.now c.loop-byte.at c.loop-byte.byte-index c.loop-byte.invariant c.loop-byte-test.true (ap (begins (get_or c.args.text.now c.loop-byte.byte-index 0)) (sym (rest-of c.loop-byte.at c.args.code.now)) ∙ sym c.begins-in-loop-byte.ensures ∙ c.if-not-begins-2.false) w.if-byte-eq0.false)
]
