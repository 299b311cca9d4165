-- Pieces of a list.
use Rattle.std.proofs.Common.{◌≡◌, ◌∙◌, ◌++◌, ◌<◌, ◌≤◌, ℕ, zero, suc, List, [], ◌∷◌, length, take, drop, refl, ap, arith}
use Rattle.std.specs.List.{All, flat_map}
use Rattle.std.proofs.lemmas.List.{length-drop, length-take, take-append-drop}
use Rattle.std.proofs.lemmas.List.Elements.{All-cons, All-nil}
use Rattle.pipe_columns.specs.Pieces.{pieces, pieces_within}

module _ {A : Type 0} (n : ℕ) (some : 0 < n) where
  -- a piece is not empty, and not longer than its size
  abbrev IsPiece : List A → Type 0
  IsPiece piece = (0 < length piece) × (length piece ≤ n)

  -- what is left of a list behind a piece is shorter
  rest_shorter : (most : ℕ) (x : A) (xs : List A) → length (x ∷ xs) ≤ suc most → length (drop n (x ∷ xs)) ≤ most
  rest_shorter most x xs le = let left = length-drop n (x ∷ xs) in omega (arith, left, le, some)

  -- enough pieces are the list when they are joined
  joined : (most : ℕ) (xs : List A) → length xs ≤ most → flat_map (λ (piece : List A). piece) (pieces_within most n xs) ≡ xs
  joined zero [] le = refl
  joined zero (x ∷ xs) le = absurd (omega arith)
  joined (suc most) [] le = refl
  joined (suc most) (x ∷ xs) le =
      ap (λ (rest : List A). take n (x ∷ xs) ++ rest) (joined most (drop n (x ∷ xs)) (rest_shorter most x xs le)) ∙ take-append-drop n (x ∷ xs)

  -- each is a piece
  all_pieces : (most : ℕ) (xs : List A) → All IsPiece (pieces_within most n xs)
  all_pieces zero xs = All-nil IsPiece
  all_pieces (suc most) [] = All-nil IsPiece
  all_pieces (suc most) (x ∷ xs) =
      let long = length-take n (x ∷ xs) in
      All-cons IsPiece (take n (x ∷ xs)) (pieces_within most n (drop n (x ∷ xs))) (omega (arith, long, some), omega (arith, long)) (all_pieces most (drop n (x ∷ xs)))

  -- joined pieces are the list
  pub pieces_joined : (xs : List A) → flat_map (λ (piece : List A). piece) (pieces n xs) ≡ xs
  pieces_joined xs = joined (length xs) xs (omega arith)

  -- each piece is one
  pub pieces_are : (xs : List A) → All IsPiece (pieces n xs)
  pieces_are xs = all_pieces (length xs) xs
