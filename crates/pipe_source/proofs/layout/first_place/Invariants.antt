use Rattle.std.proofs.Common.{◌≡◌, drop}
use Rattle.csv.specs.Records.{fields_of}
use Rattle.pipe_source.specs.Layout.{first_place}
use Rattle.pipe_source.proofs.layout.first_place.Given as goal

-- the rest tells
abbrev pub invariant-loop-i : goal.invariant-loop-i
invariant-loop-i l = first_place l.name l.from (drop l.from (fields_of l.names)) ≡ first_place l.name l.i (drop l.i (fields_of l.names))
