-- What a local table is after its table was lent.
use Rattle.std.specs.Borrow.{Fml, Lends, MutBor}
use Rattle.pipe_tables.specs.contracts.hash_table.AggHashTable as hash_table
use Rattle.pipe_tables.specs.contracts.thread_local.ThreadLocalTable as thread_local
use Rattle.pipe_tables.specs.LocalTable.{Local}
use Rattle.pipe_keyed.specs.Tables.{Table}

-- a local table with another table
abbrev pub with_table : Local → Table → Local
with_table t table = record { table = table; buffers = t.buffers; overflowed = t.overflowed }

-- a local table ends with the table that is left behind the reference
abbrev pub LendsTable : MutBor Local → MutBor Table → Fml
LendsTable s r = Lends thread_local.the_row hash_table.the_row s r (with_table s.now)
