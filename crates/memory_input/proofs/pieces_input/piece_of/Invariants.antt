use Rattle.std.proofs.Common.{◌≡◌, length}
use Rattle.memory_input.specs.HeldText.{piece_files}
use Rattle.pipe_io.specs.Files.{file_of}
use Rattle.memory_input.proofs.pieces_input.piece_of.Given as goal

-- the files so far have other names
abbrev pub invariant-loop-first : goal.invariant-loop-first
invariant-loop-first l =
    file_of (piece_files l.fn.names l.fn.lengths l.text) l.name ≡ file_of (piece_files l.names l.lengths l.rest) l.name

abbrev pub decreases-loop-first : goal.decreases-loop-first
decreases-loop-first l = length l.names
