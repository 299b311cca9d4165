-- Indexes of groups under a slice.
use Rattle.std.proofs.Common.{◌≡◌, ◌∙◌, ℕ, zero, suc, ◌<◌, Bool, true, false, cond, Option, Some, None, List, [], ◌∷◌, length, map, take, drop, get_or, refl, sym, ap, subst, arith}
use Rattle.std.specs.List.{All, AllByRecursion, drop-map, filter, IsDistinct, take-map}
use Rattle.std.proofs.lemmas.List.Elements.{All-drop, All-head, All-map, All-tail, All-take}
use Rattle.std.proofs.lemmas.Map.Keys.{IsDistinct-cons, IsDistinct-head, IsDistinct-tail}
use Rattle.pipe_columns.specs.Slice.{sliced}
use Rattle.pipe_groups.specs.Given.{CanGive}
use Rattle.pipe_groups.specs.Groups.{Group, group_of, has_rows, held_groups, no_group}
use Rattle.pipe_groups.specs.Shape.{Shape}
use Rattle.pipe_groups.proofs.OrderFacts.{distinct-none}

-- what holds of each holds of those that a slice takes
pub sliced-holds : {X : Type 0} (P : X → Type 0) (slice : Option (ℕ × ℕ)) (xs : List X) → All P xs → All P (sliced slice xs)
sliced-holds P None xs h = h
sliced-holds P (Some s) xs h = All-take P s.1 (drop s.0 xs) (All-drop P s.0 xs h)

-- a slice of what a function makes
pub sliced-map : {X Y : Type 0} (f : X → Y) (slice : Option (ℕ × ℕ)) (xs : List X) → map f (sliced slice xs) ≡ sliced slice (map f xs)
sliced-map f None xs = refl
sliced-map f (Some s) xs = sym (take-map f s.1 (drop s.0 xs)) ∙ ap (take s.1) (sym (drop-map f s.0 xs))

module _ {X : Type 0} (same : X → X → Bool) where
  differs-take : (x : X) (n : ℕ) (xs : List X) → AllByRecursion (λ y. same x y ≡ false) xs → AllByRecursion (λ y. same x y ≡ false) (take n xs)
  differs-take x zero xs h = tt
  differs-take x (suc n) [] h = tt
  differs-take x (suc n) (y ∷ ys) h = (h.0, differs-take x n ys h.1)

  distinct-take : (n : ℕ) (xs : List X) → IsDistinct same xs → IsDistinct same (take n xs)
  distinct-take zero xs d = distinct-none same
  distinct-take (suc n) [] d = d
  distinct-take (suc n) (x ∷ xs) d = IsDistinct-cons same x (take n xs) (differs-take x n xs (IsDistinct-head same x xs d)) (distinct-take n xs (IsDistinct-tail same x xs d))

  pub distinct-drop : (n : ℕ) (xs : List X) → IsDistinct same xs → IsDistinct same (drop n xs)
  distinct-drop zero xs d = d
  distinct-drop (suc n) [] d = d
  distinct-drop (suc n) (x ∷ xs) d = distinct-drop n xs (IsDistinct-tail same x xs d)

  -- what stands apart stands apart under a slice
  pub sliced-apart : (slice : Option (ℕ × ℕ)) (xs : List X) → IsDistinct same xs → IsDistinct same (sliced slice xs)
  sliced-apart None xs d = d
  sliced-apart (Some s) xs d = distinct-take s.1 (drop s.0 xs) (distinct-drop s.0 xs d)

-- what holds of all that pass a test holds of one that passes
pub passes-holds : {X : Type 0} (P : X → Type 0) (p : X → Bool) (xs : List X) (i : ℕ) (d : X) → All P (filter p xs) → i < length xs → p (get_or xs i d) ≡ true → P (get_or xs i d)
passes-holds P p [] i d h lt e = absurd (omega arith)
passes-holds P p (x ∷ xs) zero d h lt e = All-head P x (filter p xs) (subst (λ (b : Bool). All P (cond b (x ∷ filter p xs) (filter p xs))) e h)
passes-holds P p (x ∷ xs) (suc i) d h lt e = passes-holds P p xs i d (by (p x) h) (omega (arith, lt)) e where
  by : (b : Bool) → All P (cond b (x ∷ filter p xs) (filter p xs)) → All P (filter p xs)
  by true h = All-tail P x (filter p xs) h
  by false h = h

-- groups with rows can give what all groups with rows can
pub groups-give : (s : Shape) (gs : List Group) (order : List ℕ) → All (CanGive s) (held_groups gs) → All (λ i. i < length gs) order
    → All (λ i. has_rows (group_of gs i) ≡ true) order → All (CanGive s) (map (group_of gs) order)
groups-give s gs order h within rows =
    All-map (CanGive s) (group_of gs) order (λ k d lt. passes-holds (CanGive s) has_rows gs (get_or order k d) no_group h (within k d lt) (rows k d lt))
