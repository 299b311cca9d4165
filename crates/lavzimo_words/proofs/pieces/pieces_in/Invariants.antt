use Rattle.std.proofs.Common.{◌≡◌, ◌++◌, length}
use Rattle.std.specs.Prelude.{filter_map, flat_map}
use Rattle.clap.specs.Matches.{ids_left}
use Rattle.clap.specs.Words.{found_of, rows_of}
use Rattle.lavzimo_words.specs.Items.{pieces_for, pieces_in}
use Rattle.lavzimo_words.specs.Pieces.{pieces_seen}
use Rattle.lavzimo_words.specs.Roles.{role_named}
use Rattle.lavzimo_words.proofs.pieces.pieces_in.Given as goal

-- the pieces so far, and those of the options that are left
abbrev pub invariant-loop-option : goal.invariant-loop-option
invariant-loop-option l =
    pieces_seen l.pieces.items ++ flat_map (pieces_for (rows_of (found_of l.matches))) (filter_map role_named (ids_left l.options))
    ≡ pieces_in (rows_of (found_of l.matches))

abbrev pub decreases-loop-option : goal.decreases-loop-option
decreases-loop-option l = length (ids_left l.options)
