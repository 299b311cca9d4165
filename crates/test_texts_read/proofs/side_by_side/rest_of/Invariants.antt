use Rattle.std.proofs.Common.{◌≡◌, ◌<◌, length, true}
use Rattle.test_texts_read.proofs.side_by_side.rest_of.Given as goal

-- the file is begun, and there is room
abbrev pub invariant-loop : goal.invariant-loop
invariant-loop g l = (g.I.InputFiles.begun l.input ≡ true) × (0 < length l.room)
