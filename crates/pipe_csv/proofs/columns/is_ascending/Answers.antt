use Rattle.std.proofs.Common.{◌-◌, sym, arith}
use Rattle.pipe_csv.proofs.ColumnFacts.{ascend-end}
use Rattle.pipe_csv.proofs.columns.is_ascending.Goals as goal

pub returns : goal.returns
returns c = sym (ascend-end c.args.values.now (c.loop-i.i - 1) c.loop-i.invariant (omega arith))
