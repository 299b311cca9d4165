use Rattle.std.proofs.Common.{arith}
use Rattle.pipe_tables.proofs.ExchangeFacts.{one-part}
use Rattle.pipe_tables.proofs.hash_table.AggHashTable.lies_in.Goals as goal

pub returns-then-partitions-eq1 : goal.returns-then-partitions-eq1
returns-then-partitions-eq1 c = rw c.if-partitions-eq1.true (one-part c.args.partition c.args.self.now.groups (omega (arith, c.requires, c.if-partitions-eq1.true)))
