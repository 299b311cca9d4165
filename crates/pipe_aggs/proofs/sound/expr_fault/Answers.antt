use Rattle.std.proofs.Common.{rules}
use Rattle.pipe_aggs.proofs.CheckedFacts.{texts_of}
use Rattle.pipe_aggs.proofs.sound.expr_fault.Goals as goal

pub returns-else-has_sum_of_dates-clause-none : goal.returns-else-has_sum_of_dates-clause-none
returns-else-has_sum_of_dates-clause-none c = record {
  known = search rules;
  typed = search rules;
  row_wise = search rules;
  kept = search rules;
  dateless = search rules;
  texts = texts_of c.args.query.now c.requires.texts;
}
