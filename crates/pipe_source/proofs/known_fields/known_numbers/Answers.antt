use Rattle.std.proofs.Common.{true, false}
use Rattle.pipe_source.proofs.PlainReads.{knows-more}
use Rattle.pipe_source.proofs.known_fields.known_numbers.Goals as goal
use Rattle.pipe_source.proofs.known_fields.known_numbers.Goals.{in-Int64+in_ok-push-in-Int64, in-String+in_ok-push-in-String}

pub loop-field-preserved : goal.loop-field-preserved
loop-field-preserved c = elim c.match-field.branch [
  | in-Int64+in_ok-push-in-Int64 w ↦ rw (w.numbers-is, w.in_ok-push-in-Int64.ensures.items) (knows-more c.args.is_ascii true c.loop-field.numbers.items c.args.fields.now c.loop-field.field-index c.field-item.result c.loop-field-test.true c.field-item.is c.loop-field.invariant w.in-Int64.is)
  | in-String+in_ok-push-in-String w ↦ rw (w.numbers-is, w.in_ok-push-in-String.ensures.items) (knows-more c.args.is_ascii false c.loop-field.numbers.items c.args.fields.now c.loop-field.field-index c.field-item.result c.loop-field-test.true c.field-item.is c.loop-field.invariant (w.in-String.is, w.if-is_ascii.true))
]
