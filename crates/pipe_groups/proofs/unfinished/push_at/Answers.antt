use Rattle.pipe_groups.proofs.ColumnFacts.{columns_of-set}
use Rattle.pipe_groups.proofs.unfinished.push_at.Goals as goal

pub returns : goal.returns
returns c = columns_of-set c.args.columns.now c.args.at c.push.new.self c.args.value c.index-columns-at.result c.requires c.in_ok-push.ensures.column
