use Rattle.std.proofs.Common.{◌∙◌, sym}
use Rattle.pipe_groups.proofs.KeepNoneFacts.{keep-end, keep-fails, keep-next}
use Rattle.pipe_groups.proofs.feed_run.keep_no_text.Goals as goal

pub returns-then-keeps_text_of : goal.returns-then-keeps_text_of
returns-then-keeps_text_of c =
    sym (sym c.loop-j.invariant ∙ keep-fails c.args.prototypes.now c.args.types.now c.loop-j.j c.index-prototypes-j.result c.loop-j-test.true c.index-prototypes-j.is (sym c.keeps_text_of.ensures ∙ c.if-keeps_text_of.true))

pub loop-j-preserved : goal.loop-j-preserved
loop-j-preserved c =
    sym (keep-next c.args.prototypes.now c.args.types.now c.loop-j.j c.index-prototypes-j.result c.loop-j-test.true c.index-prototypes-j.is (sym c.keeps_text_of.ensures ∙ c.if-keeps_text_of.false)) ∙ c.loop-j.invariant

pub returns : goal.returns
returns c = sym (sym c.loop-j.invariant ∙ keep-end c.args.prototypes.now _ c.loop-j.j c.loop-j-test.false)
