use Rattle.std.proofs.Common.{◌≡◌}
use Rattle.pipe_source.specs.CsvChunks.{numbers_from}
use Rattle.pipe_source.proofs.source_columns.row_numbers.Given as goal

-- the first numbers
abbrev pub invariant-loop-i : goal.invariant-loop-i
invariant-loop-i l = l.numbers.items ≡ numbers_from l.first l.i
