use Rattle.std.proofs.Common.{rules}
use Rattle.test_ruled_sink.proofs.SenderFacts.{one-is-all}
use Rattle.test_ruled_sink.proofs.sinks.ended.Goals as goal

pub finalize-requires : goal.finalize-requires
finalize-requires g c = search (rules, one-is-all)
