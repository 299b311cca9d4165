use Rattle.std.proofs.Common.{◌∙◌, ap, get_or, sym}
use Rattle.pipe_columns.specs.declared.any_value.AnyValue.{AnyValue}
use Rattle.pipe_regroup.specs.declared.rule.Rule.TheVariants as rule
use Rattle.pipe_regroup.specs.Rules.{joined}
use Rattle.pipe_regroup.proofs.ListFacts.{joined-step}
use Rattle.pipe_regroup.proofs.group.join_results.Goals as goal

pub loop-j-preserved : goal.loop-j-preserved
loop-j-preserved c = record {
  joined = joined-step c.args.earlier c.args.later c.args.rules.now c.args.more.now c.args.held.now c.loop-j.held c.loop-j.j rule.SumU32
      c.index-held-j.result c.index-more-j.result c.join_value.new.held c.requires.held c.requires.more c.loop-j-test.true c.loop-j.invariant.joined
      c.index-held-j.is c.index-more-j.is
      (c.in_ok-join_value.ensures
      ∙ ap (λ (v : AnyValue). joined (get_or c.args.rules.now c.loop-j.j rule.SumU32) c.args.earlier c.args.later v c.index-more-j.result) (sym c.index-held-j.is));
}
