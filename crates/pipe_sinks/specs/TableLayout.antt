-- Of the proofs alone: how a table is kept.
use Rattle.std.specs.Prelude.{None}
use Rattle.pipe_groups.specs.Groups.{Seen}
use Rattle.pipe_sinks.specs.declared.key_table.KeyTable.TheInside.{Inside}
use Rattle.pipe_keyed.specs.Tables.{IsTable, Table}

-- groups as a table without a limit
abbrev pub table_of : Seen → Table
table_of t = record { shape = t.shape; limit = None; groups = t.groups }

-- a table as contracts see it
abbrev pub table_in : Inside → Table
table_in a = table_of a.keyed

-- it is one
abbrev pub IsKept : Inside → Type 0
IsKept a = IsTable (table_in a)
