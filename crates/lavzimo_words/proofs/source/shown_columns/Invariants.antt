use Rattle.std.proofs.Common.{◌≡◌, ◌++◌, drop}
use Rattle.lavzimo_words.specs.AskedQuery.{shown_columns, sources_from}
use Rattle.lavzimo_words.proofs.source.shown_columns.Given as goal

-- the sources so far, and those of the columns that are left
abbrev pub invariant-loop-column : goal.invariant-loop-column
invariant-loop-column l = l.sources.items ++ sources_from l.place (drop l.column-index l.columns) ≡ shown_columns l.columns
