-- Which pieces stand in frames.
use Rattle.std.specs.Prelude.{◌≡◌, ◌<◌, ◌==◌, ◌&&◌, ℕ, Bool, List, [], length, map, All}
use Rattle.std.specs.List.{flat_map, IsDistinct, slice_index_or}
use Rattle.pipe_columns.specs.Row.{Row}
use Rattle.pipe_plan.specs.Payloads.{payloads}
use Rattle.pipe_plan.specs.Replay.{joined_lists}
use Rattle.pipe_plan.specs.Run.{Run}

-- a piece in a partition, by its worker and its number among the worker's pieces there
pub record PieceName : Type 0 where
  pub worker : ℕ
  pub number : ℕ

-- whether two names are of one piece
abbrev pub same_piece : PieceName → PieceName → Bool
same_piece a b = (a.worker == b.worker) && (a.number == b.number)

-- the rows of a piece
abbrev pub piece_rows : Run → ℕ → PieceName → List Row
piece_rows r p n = slice_index_or (payloads r n.worker p) n.number []

-- a name is that of a piece of the run
abbrev pub IsPiece : Run → ℕ → PieceName → Type 0
IsPiece r p n = (n.worker < r.limits.workers) × (n.number < length (payloads r n.worker p))

-- each frame is pieces of the run joined, one or more, and no piece stands in two frames or twice in
-- one
pub record AreOfPieces (r : Run) (p : ℕ) (frames : List (List Row)) : Type 0 where
  pub names : List (List PieceName)
  pub some : All (λ part. 0 < length part) names
  pub rows : frames ≡ map (λ part. flat_map (piece_rows r p) part) names
  pub apart : IsDistinct same_piece (joined_lists names)
  pub pieces : All (IsPiece r p) (joined_lists names)
