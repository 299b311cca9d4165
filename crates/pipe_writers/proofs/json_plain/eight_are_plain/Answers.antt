use Rattle.pipe_writers.proofs.PlainFacts.{eight_plain}
use Rattle.pipe_writers.proofs.json_plain.eight_are_plain.Goals as goal

pub returns : goal.returns
returns c = eight_plain c.args.bytes.now c.args.at c.requires
