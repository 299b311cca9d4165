-- Groups that are given piece by piece.
use Rattle.std.proofs.Common.{◌≡◌, ◌∙◌, ℕ, zero, suc, ◌+◌, ◌-◌, ◌<◌, ◌≤◌, true, false, List, [], ◌∷◌, ◌++◌, length, map, take, drop, get_or, nat_eq, Option, Some, refl, sym, ap, subst, arith}
use Rattle.std.specs.List.{All, AllZip, drop-map, IsDistinct, take-map}
use Rattle.std.proofs.lemmas.List.{drop-drop, get_or-drop, get_or-take, get_or_default, length-drop, length-take-le, take_rest}
use Rattle.std.proofs.lemmas.List.Elements.{All-drop, All-take}
use Rattle.std.proofs.lemmas.Map.Keys.{apart_from_distinct}
use Rattle.pipe_columns.specs.Slice.{sliced}
use Rattle.pipe_columns.specs.Frame.{frame_of, FrameData, stacked}
use Rattle.pipe_groups.specs.declared.pieces.GroupPieces.TheInside.{Inside}
use Rattle.pipe_groups.specs.Given.{CanGive, in_order, IsFrameOfGroups, IsRowOfGroup}
use Rattle.pipe_groups.specs.Groups.{Group, group_of, HasGroups, has_rows, held_groups, Seen}
use Rattle.pipe_groups.specs.Pieces.{PiecesSeen}
use Rattle.pipe_groups.specs.PiecesLayout.{ArePieces, left_in, seen_in}
use Rattle.pipe_groups.specs.Shape.{IsShape, Shape}
use Rattle.pipe_groups.proofs.PartsFacts.{map-same, stacked-frame}
use Rattle.pipe_groups.proofs.SliceFacts.{distinct-drop, groups-give, sliced-apart, sliced-holds, sliced-map}

-- ---- frames of pieces

zip-behind : {X Y : Type 0} (P : X → Y → Type 0) (xs more : List X) (ys others : List Y) → AllZip P xs ys → AllZip P more others → AllZip P (xs ++ more) (ys ++ others)
zip-behind P [] more [] others h k = k
zip-behind P [] more (y ∷ ys) others h k = absurd h
zip-behind P (x ∷ xs) more [] others h k = absurd h
zip-behind P (x ∷ xs) more (y ∷ ys) others h k = (h.0, zip-behind P xs more ys others h.1 k)

-- the frame of groups below that of others is one of both
pub pieces-stacked : (s : Shape) (gs hs : List Group) (f g : FrameData) → IsFrameOfGroups s gs f → IsFrameOfGroups s hs g → IsFrameOfGroups s (gs ++ hs) (stacked f g)
pieces-stacked s gs hs f g x y = record {
  rows = x.rows ++ y.rows;
  each = zip-behind (λ o row. IsRowOfGroup s o row) gs hs x.rows y.rows x.each y.each;
  frame_is = (λ i. stacked (x.frame_is i) (y.frame_is i)) ∙ stacked-frame s.fields x.rows y.rows;
}

-- no groups have a frame of no rows
pub none-given : (s : Shape) → IsFrameOfGroups s [] (frame_of s.fields [])
none-given s = record { rows = []; each = tt; frame_is = refl }

-- ---- a piece

-- so many from a place on, and those behind them
drop-piece : {X : Type 0} (most : ℕ) (xs : List X) → drop (length (take most xs)) xs ≡ drop most xs
drop-piece zero xs = refl
drop-piece (suc n) [] = refl
drop-piece (suc n) (x ∷ xs) = drop-piece n xs

piece-le : {X : Type 0} (most : ℕ) (xs : List X) → length (take most xs) ≤ length xs
piece-le zero xs = omega arith
piece-le (suc n) [] = omega arith
piece-le (suc n) (x ∷ xs) = omega (arith, piece-le n xs)

-- what was taken on is a piece
pub piece-is : (a : Inside) (most : ℕ) (xs r : List ℕ) → xs ≡ a.order.items → r ≡ take most (take (length xs - a.next) (drop a.next xs)) → r ≡ take most (drop a.next a.order.items)
piece-is a most xs r all is = is ∙ ap (take most) (take_rest xs a.next) ∙ ap (λ (l : List ℕ). take most (drop a.next l)) all

-- where a piece is refused all is as before
pub kept-are : (a b : Inside) → b.order.items ≡ a.order.items → b.next ≡ a.next → HasGroups a.groups b.groups a.groups.groups → ArePieces a → ArePieces b
kept-are a b order next kept are = record {
  shape = subst (λ (s : Shape). IsShape s) (sym kept.1) are.shape;
  within = rw (order, kept.0) are.within;
  once = rw order are.once;
  gives = rw (kept.0, kept.1, next, order) are.gives;
  next = rw (next, order) are.next;
}

module _ (a : Inside) (are : ArePieces a) (most : ℕ) (piece : List ℕ) (is : piece ≡ take most (drop a.next a.order.items)) where
  abbrev rest : List ℕ
  rest = drop a.next a.order.items

  pub piece-once : IsDistinct nat_eq piece
  piece-once = rw is (sliced-apart nat_eq (Some (a.next, most)) a.order.items are.once)

  pub piece-groups : map (group_of a.groups.groups) piece ≡ take most (left_in a)
  piece-groups = ap (map (group_of a.groups.groups)) is ∙ sym (take-map (group_of a.groups.groups) most rest)

  pub piece-gives : All (CanGive a.groups.shape) (map (group_of a.groups.groups) piece)
  piece-gives = subst (All (CanGive a.groups.shape)) (sym piece-groups) (All-take (CanGive a.groups.shape) most (left_in a) are.gives)

  next-rest : drop (a.next + length piece) a.order.items ≡ drop most rest
  next-rest = sym (drop-drop (length piece) a.next a.order.items) ∙ ap (λ (l : List ℕ). drop (length l) rest) is ∙ drop-piece most rest

  -- what stands behind a piece differs from what is in it
  behind-apart : (k d : ℕ) → k < length (drop most rest) → All (λ i. nat_eq i (get_or (drop most rest) k d) ≡ false) piece
  behind-apart k d lt = rw is (λ m e h.
      let whole : length (drop most rest) ≡ length rest - most = length-drop most rest in
      let size : length (take most rest) ≡ most = length-take-le most rest (omega (arith, lt, whole)) in
      let near : m < most = omega (arith, h, size) in
      let far : most + k < length rest = omega (arith, lt, whole) in
      let front : get_or (take most rest) m e ≡ get_or rest m d = get_or-take most rest m e near ∙ get_or_default rest m e d (omega (arith, near, far)) in
      let back : get_or (drop most rest) k d ≡ get_or rest (most + k) d = get_or-drop most rest k d in
      (λ i. nat_eq (front i) (back i)) ∙ apart_from_distinct nat_eq rest m (most + k) d (distinct-drop nat_eq a.next a.order.items are.once) (omega (arith, near)) far)

  module _ (b : Inside) (order : b.order.items ≡ a.order.items) (moved : b.next ≡ a.next + length piece) (shape : b.groups.shape ≡ a.groups.shape) (count : length b.groups.groups ≡ length a.groups.groups)
      (others : (k : ℕ) → All (λ i. nat_eq i k ≡ false) piece → group_of b.groups.groups k ≡ group_of a.groups.groups k) where
    next-left : left_in b ≡ drop most (left_in a)
    next-left =
        let behind : drop b.next b.order.items ≡ drop most rest = (λ i. drop (moved i) (order i)) ∙ next-rest in
        ap (map (group_of b.groups.groups)) behind
        ∙ map-same (λ x. group_of b.groups.groups x ≡ group_of a.groups.groups x) (group_of b.groups.groups) (group_of a.groups.groups) (λ x h. h) (drop most rest)
        (λ k d lt. others (get_or (drop most rest) k d) (behind-apart k d lt))
        ∙ sym (drop-map (group_of a.groups.groups) most rest)

    pub next-seen : (t : PiecesSeen) → seen_in a ≡ t → seen_in b ≡ record { shape = t.shape; left = drop most t.left }
    next-seen t view_is = (λ i. record { shape = shape i; left = next-left i }) ∙ ap (λ (s : PiecesSeen). record { shape = s.shape; left = drop most s.left }) view_is

    pub next-are : ArePieces b
    next-are = record {
      shape = subst (λ (s : Shape). IsShape s) (sym shape) are.shape;
      within = rw (order, count) are.within;
      once = rw order are.once;
      gives = rw (next-left, shape) (All-drop (CanGive a.groups.shape) most (left_in a) are.gives);
      next = rw (moved, order, is) (omega (arith, are.next, piece-le most rest, length-drop a.next a.order.items));
    }

-- ---- all at first

module _ (t : Seen) (o : List ℕ) (slice : Option (ℕ × ℕ)) (b : Inside) (groups : b.groups ≡ t) (order : b.order.items ≡ sliced slice o) (first : b.next ≡ 0) where
  from_order : left_in b ≡ sliced slice (map (group_of t.groups) o)
  from_order = (λ i. map (group_of (groups i).groups) (drop (first i) (order i))) ∙ sliced-map (group_of t.groups) slice o

  pub made-seen : map (group_of t.groups) o ≡ in_order t.groups → seen_in b ≡ record { shape = t.shape; left = sliced slice (in_order t.groups) }
  made-seen is = let left = from_order ∙ ap (sliced slice) is in λ i. record { shape = (groups i).shape; left = left i }

  pub made-are : IsShape t.shape → All (λ i. i < length t.groups) o → IsDistinct nat_eq o → All (λ i. has_rows (group_of t.groups i) ≡ true) o → All (CanGive t.shape) (held_groups t.groups) → ArePieces b
  made-are known within once rows gives = record {
    shape = subst (λ (s : Seen). IsShape s.shape) (sym groups) known;
    within = rw (order, groups) (sliced-holds (λ i. i < length t.groups) slice o within);
    once = rw order (sliced-apart nat_eq slice o once);
    gives = rw from_order (subst (λ (s : Seen). All (CanGive s.shape) (sliced slice (map (group_of t.groups) o))) (sym groups)
        (sliced-holds (CanGive t.shape) slice (map (group_of t.groups) o) (groups-give t.shape t.groups o gives within rows)));
    next = rw first (omega arith);
  }
