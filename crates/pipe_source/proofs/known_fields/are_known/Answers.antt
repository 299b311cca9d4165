use Rattle.std.proofs.Common.{rules}
use Rattle.pipe_source.proofs.NamedReads.{known-more}
use Rattle.pipe_source.proofs.known_fields.are_known.Goals as goal

pub loop-i-preserved : goal.loop-i-preserved
loop-i-preserved c = known-more c.args.is_ascii c.args.numbers.now c.args.columns.now c.args.places.now c.loop-i.i c.index-columns-i.result c.loop-i-test.true c.requires.placed.many c.index-columns-i.is c.loop-i.invariant (c.is_known.ensures (search rules))
