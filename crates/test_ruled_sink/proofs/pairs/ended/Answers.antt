use Rattle.std.proofs.Common.{rules}
use Rattle.test_ruled_sink.proofs.SenderFacts.{two-are-all}
use Rattle.test_ruled_sink.proofs.pairs.ended.Goals as goal

pub finalize-requires : goal.finalize-requires
finalize-requires g c = search (rules, two-are-all)
