-- Of the proofs alone: the code's pieces.
use Rattle.std.specs.Prelude.{ℕ, Bool, List, [], ◌∷◌, map, if◌then◌else◌, Option, Some, None}
use Rattle.clap.specs.Words.{Row}
use Rattle.lavzimo_words.specs.Items.{pieces_for}
use Rattle.lavzimo_words.specs.declared.pieces.Piece.{Piece}
use Rattle.lavzimo_words.specs.declared.role.Role.{Role}

-- a piece of a role
abbrev pub piece_seen : Piece → Role × List ℕ
piece_seen p = (p.role, p.text.now)

-- pieces of roles
abbrev pub pieces_seen : List Piece → List (Role × List ℕ)
pieces_seen ps = map piece_seen ps

-- the pieces of a role, if there is one
abbrev pub pieces_as : List Row → Option Role → List (Role × List ℕ)
pieces_as rows None = []
pieces_as rows (Some r) = pieces_for rows r

-- the piece that counts rows, where they are counted
abbrev pub row_pieces : Role → Bool → List (Role × List ℕ)
row_pieces r counts = if counts then (r, []) ∷ [] else []
