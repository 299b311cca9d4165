-- The names by which faults are told.
use Rattle.std.specs.Prelude.{ℕ, List}
use Rattle.pipe_columns.specs.declared.schema.Field.{Field}
use Rattle.pipe_model.specs.Query.{QueryTree}
use Rattle.lavzimo_words.specs.Asked.{AskedSeen}
use Rattle.lavzimo_answer.specs.declared.names.Names.{Names}

-- the names of files, and the columns of a query
pub record NamesSeen : Type 0 where
  pub files : List (List ℕ)
  pub columns : List Field

-- names, with their lists
abbrev pub names_seen : Names → NamesSeen
names_seen n = record { files = n.files.items; columns = n.columns }

-- the names of what is asked, whose query is this
abbrev pub names_of : AskedSeen → QueryTree → NamesSeen
names_of a q = record { files = a.files; columns = q.schema }
