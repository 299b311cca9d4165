-- Frames that are pieces joined have rows, since each piece has.
use Rattle.std.proofs.Common.{ℕ, zero, suc, ◌<◌, Bool, true, false, List, [], ◌∷◌, ◌++◌, length, take, drop, map, arith, All, length-append, if◌then◌else◌}
use Rattle.std.specs.List.{flat_map}
use Rattle.std.proofs.lemmas.List.Elements.{All-cons, All-head, All-nil, All-same, All-tail}
use Rattle.pipe_columns.specs.Pieces.{pieces, pieces_within}
use Rattle.pipe_columns.specs.Row.{Row}
use Rattle.pipe_plan.specs.Frames.{AreOfPieces, IsPiece, piece_rows, PieceName}
use Rattle.pipe_plan.specs.Overflow.{overflow}
use Rattle.pipe_plan.specs.Payloads.{full_pieces, payloads}
use Rattle.pipe_plan.specs.Replay.{joined_lists}
use Rattle.pipe_plan.specs.Run.{Run}

-- no piece of a list is empty
pieces-some : {A : Type 0} (n most : ℕ) (xs : List A) → 0 < n → All (λ piece. 0 < length piece) (pieces_within most n xs)
pieces-some n zero xs some = All-nil (λ piece. 0 < length piece)
pieces-some n (suc most) [] some = All-nil (λ piece. 0 < length piece)
pieces-some {A = A} n (suc most) (x ∷ xs) some =
    All-cons (λ (piece : List A). 0 < length piece) (take n (x ∷ xs)) (pieces_within most n (drop n (x ∷ xs))) (front n some) (pieces-some n most (drop n (x ∷ xs)) some)
  where
    front : (n : ℕ) → 0 < n → 0 < length (take n (x ∷ xs))
    front zero some = absurd (omega arith)
    front (suc m) some = omega arith

-- nor is one of a worker's
payloads-some : (r : Run) (w p : ℕ) → 0 < r.limits.buffer_size → All (λ piece. 0 < length piece) (payloads r w p)
payloads-some r w p some = by r.is_open where
  by : (b : Bool) → All (λ (piece : List Row). 0 < length piece) (if b then full_pieces r.limits.buffer_size (overflow r w p) else pieces r.limits.buffer_size (overflow r w p))
  by true = pieces-some r.limits.buffer_size _ _ some
  by false = pieces-some r.limits.buffer_size _ _ some

module _ (r : Run) (p : ℕ) (some : 0 < r.limits.buffer_size) where
  -- a frame of a piece or more has rows
  frame-some : (part : List PieceName) → 0 < length part → All (IsPiece r p) part → 0 < length (flat_map (piece_rows r p) part)
  frame-some [] none are = absurd (omega (arith, none))
  frame-some (n ∷ part) long are =
      let is = All-head (IsPiece r p) n part are in
      let rows : 0 < length (piece_rows r p n) = payloads-some r n.worker p some n.number [] is.1 in
      omega (arith, rows, length-append (piece_rows r p n) (flat_map (piece_rows r p) part))

  -- the front of names that are all of pieces
  front-of : (part names : List PieceName) → All (IsPiece r p) (part ++ names) → All (IsPiece r p) part
  front-of [] names are = All-nil (IsPiece r p)
  front-of (n ∷ part) names are = All-cons (IsPiece r p) n part (All-head (IsPiece r p) n (part ++ names) are) (front-of part names (All-tail (IsPiece r p) n (part ++ names) are))

  -- and what stands behind it
  behind : (part names : List PieceName) → All (IsPiece r p) (part ++ names) → All (IsPiece r p) names
  behind [] names are = are
  behind (n ∷ part) names are = behind part names (All-tail (IsPiece r p) n (part ++ names) are)

  -- each of several frames
  rows-some : (names : List (List PieceName)) → All (λ part. 0 < length part) names → All (IsPiece r p) (joined_lists names)
      → All (λ rows. 0 < length rows) (map (λ part. flat_map (piece_rows r p) part) names)
  rows-some [] long are = All-nil (λ rows. 0 < length rows)
  rows-some (part ∷ names) long are =
      All-cons (λ (rows : List Row). 0 < length rows) (flat_map (piece_rows r p) part) (map (λ part. flat_map (piece_rows r p) part) names)
      (frame-some part (All-head (λ (part : List PieceName). 0 < length part) part names long) (front-of part (joined_lists names) are))
      (rows-some names (All-tail (λ (part : List PieceName). 0 < length part) part names long) (behind part (joined_lists names) are))

  -- frames that are pieces joined have rows
  pub frames-some : (frames : List (List Row)) → AreOfPieces r p frames → All (λ rows. 0 < length rows) frames
  frames-some frames are = All-same (λ (rows : List Row). 0 < length rows) frames (map (λ part. flat_map (piece_rows r p) part) are.names) are.rows (rows-some are.names are.some are.pieces)
