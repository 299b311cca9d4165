use Rattle.pipe_scan.proofs.StopFacts.{fresh-marked}
use Rattle.test_texts_read.proofs.plain.skipped.Goals as goal

pub skip_plain_rows-count-requires : goal.skip_plain_rows-count-requires
skip_plain_rows-count-requires c = rw c.new-stops.ensures (fresh-marked c.args.text.now c.args.at c.requires)
