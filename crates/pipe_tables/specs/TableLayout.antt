-- Of the proofs alone: how a table is kept.
use Rattle.pipe_tables.specs.declared.hash_table.AggHashTable.TheInside.{Inside}
use Rattle.pipe_tables.specs.Parts.{ArePartsOf}
use Rattle.pipe_keyed.specs.Tables.{IsTable, Table}

-- a table as contracts see it
abbrev pub table_in : Inside → Table
table_in a = record { shape = a.keyed.shape; limit = a.limit; groups = a.keyed.groups }

-- it is one, and what is kept of partitions is up to date
pub record IsKept (a : Inside) : Type 0 where
  pub table : IsTable (table_in a)
  pub parts : ArePartsOf a.keyed.groups a.parts
