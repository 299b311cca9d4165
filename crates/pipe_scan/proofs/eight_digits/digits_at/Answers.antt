use lib.Lanes.{chunk}
use Rattle.std.proofs.lemmas.Simd.{length-chunk}
use Rattle.pipe_scan.proofs.EightFacts.{lanes_used}
use Rattle.pipe_scan.proofs.eight_digits.digits_at.Goals as goal

pub returns : goal.returns
returns c = lanes_used c.args.used (chunk c.args.at 8 c.args.text.now) c.requires.used (length-chunk c.args.at 8 c.args.text.now c.requires.within)
