use Rattle.std.proofs.Common.{rules}
use Rattle.sink_times.proofs.SenderFacts.{one-is-all}
use Rattle.sink_times.proofs.ruled.ends_well.Goals as goal

pub finalize-requires : goal.finalize-requires
finalize-requires g c = search (rules, one-is-all)
