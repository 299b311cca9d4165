use Rattle.std.proofs.Common.{◌+◌, arith, length}
use Rattle.pipe_tables.proofs.FewerFacts.{fewer_none}
use Rattle.merge_times.proofs.rounds.round.Goals as goal

pub both_times-times-requires-clause-few : goal.both_times-times-requires-clause-few
both_times-times-requires-clause-few g c =
    let n = length c.args.rows.now in
    fewer_none c.in_ok-table.table.shape c.in_ok-table.table.groups (n + n + n) c.in_ok-table.ensures.groups (omega (arith, c.requires.few))
