use Rattle.std.proofs.Common.{◌≡◌, ◌+◌, drop}
use Rattle.csv.specs.Records.{fields_of}
use Rattle.pipe_csv.specs.CsvRows.{in_front}
use Rattle.pipe_source.specs.NamedRows.{places_of}
use Rattle.pipe_source.proofs.layout.find_layout.Given as goal

-- the first columns have these places, and the rest tells
abbrev pub invariant-loop-i : goal.invariant-loop-i
invariant-loop-i l = places_of l.file 1 l.columns (fields_of l.names) ≡ in_front l.places.items (places_of l.file (l.i + 1) (drop l.i l.columns) (fields_of l.names))
