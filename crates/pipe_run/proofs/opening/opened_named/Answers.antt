use Rattle.std.proofs.Common.{rules, ◌≡◌, length}
use Rattle.pipe_run.proofs.Openings.{opened-as}
use Rattle.pipe_run.proofs.opening.opened_named.Goals as goal

pub returns-in-Ok-clause-whole : goal.returns-in-Ok-clause-whole
returns-in-Ok-clause-whole g c =
    let count : length c.into_partitions.result.items ≡ g.R.Naming.run.limits.partitions = search rules in
    let workers : length c.in-Ok.shares.items ≡ g.R.Naming.run.limits.workers = search rules in
    opened-as c.args.begun.now g.R.Naming.run c.requires.run c.into_partitions.result.items c.in-Ok.shares.items c.requires.limits c.requires.generic c.in-Ok.ensures.unused
    count workers c.into_partitions.ensures.closed c.into_partitions.ensures.events c.into_partitions.ensures.failed

pub returns-in-Ok-clause-counted : goal.returns-in-Ok-clause-counted
returns-in-Ok-clause-counted g c =
    let count : length c.into_partitions.result.items ≡ g.R.Naming.run.limits.partitions = search rules in
    let workers : length c.in-Ok.shares.items ≡ g.R.Naming.run.limits.workers = search rules in
    let whole = opened-as c.args.begun.now g.R.Naming.run c.requires.run c.into_partitions.result.items c.in-Ok.shares.items c.requires.limits c.requires.generic c.in-Ok.ensures.unused
    count workers c.into_partitions.ensures.closed c.into_partitions.ensures.events c.into_partitions.ensures.failed in
    λ p d lt. (c.into_partitions.ensures.closed p d lt).calm (whole.each p d lt).sound
