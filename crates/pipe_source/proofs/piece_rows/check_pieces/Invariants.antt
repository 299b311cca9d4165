use Rattle.std.proofs.Common.{◌≡◌, get_or}
use Rattle.pipe_source.specs.PieceRows.{AreRowsTo}
use Rattle.pipe_source.specs.Starts.{AreNoted}
use Rattle.pipe_source.proofs.piece_rows.check_pieces.Given as goal

-- the rows of the first pieces stand in the text, and the starts of chunks among them are noted
abbrev pub invariant-loop-n : goal.invariant-loop-n
invariant-loop-n g l = record {
  rows : AreRowsTo l.layout l.fields l.text l.begin (get_or l.bounds.items l.n 0) l.count;
  size : l.starts.size ≡ l.size;
  noted : AreNoted l.text l.begin l.count l.starts;
}
