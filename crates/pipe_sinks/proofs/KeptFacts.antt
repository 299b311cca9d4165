-- What the parts of a slice keep, list by list.
use Rattle.std.proofs.Common.{◌≡◌, ◌∙◌, ℕ, zero, suc, ◌-◌, ◌==◌, Bool, true, false, List, [], ◌∷◌, ◌++◌, Option, Some, None, length, map, take, drop, refl, sym, ap, arith, eqb-true}
use Rattle.std.specs.Prelude.{min, if◌then◌else◌}
use Rattle.std.specs.List.{flat_map}
use Rattle.std.proofs.lemmas.List.{drop_all, length-drop, take_all, take_min}
use Rattle.pipe_columns.specs.Slice.{sliced}
use Rattle.pipe_groups.specs.Given.{slice_after}
use Rattle.pipe_sinks.specs.Slices.{kept_by, kept_of, part_in, parts_of}

module _ {X : Type 0} where
  -- what is dropped of a list and of another behind it
  drop-both : (n : ℕ) (xs ys : List X) → drop n (xs ++ ys) ≡ drop n xs ++ drop (n - length xs) ys
  drop-both zero [] ys = refl
  drop-both zero (x ∷ xs) ys = let e : 0 - length (x ∷ xs) ≡ 0 = omega arith in ap (λ (k : ℕ). (x ∷ xs) ++ drop k ys) (sym e)
  drop-both (suc n) [] ys = let e : suc n - 0 ≡ suc n = omega arith in ap (λ (k : ℕ). drop k ys) (sym e)
  drop-both (suc n) (x ∷ xs) ys = let e : n - length xs ≡ suc n - length (x ∷ xs) = omega arith in drop-both n xs ys ∙ ap (λ (k : ℕ). drop n xs ++ drop k ys) e

  -- and what is taken
  take-both : (n : ℕ) (xs ys : List X) → take n (xs ++ ys) ≡ take n xs ++ take (n - length xs) ys
  take-both zero [] ys = refl
  take-both zero (x ∷ xs) ys = let e : 0 - length (x ∷ xs) ≡ 0 = omega arith in ap (λ (k : ℕ). take k ys) (sym e)
  take-both (suc n) [] ys = let e : suc n - 0 ≡ suc n = omega arith in ap (λ (k : ℕ). take k ys) (sym e)
  take-both (suc n) (x ∷ xs) ys = let e : n - length xs ≡ suc n - length (x ∷ xs) = omega arith in ap (λ (l : List X). x ∷ l) (take-both n xs ys ∙ ap (λ (k : ℕ). take n xs ++ take k ys) e)

  -- the part of a slice in a list keeps what the slice keeps of it
  kept-part : (slice : Option (ℕ × ℕ)) (xs : List X) → kept_by (part_in (length xs) slice) xs ≡ sliced slice xs
  kept-part None xs = take_all (length xs) xs (omega arith)
  kept-part (Some s) xs = by (min s.1 (length xs - s.0) == 0) refl where
    all : take (min s.1 (length xs - s.0)) (drop s.0 xs) ≡ take s.1 (drop s.0 xs)
    all = ap (λ (k : ℕ). take (min s.1 k) (drop s.0 xs)) (sym (length-drop s.0 xs)) ∙ take_min s.1 (drop s.0 xs)

    by : (b : Bool) → (min s.1 (length xs - s.0) == 0) ≡ b → kept_by (if b then None else Some (s.0, min s.1 (length xs - s.0))) xs ≡ take s.1 (drop s.0 xs)
    by true e = ap (λ (k : ℕ). take k (drop s.0 xs)) (sym (eqb-true (min s.1 (length xs - s.0)) 0 e)) ∙ all
    by false e = all

  -- and what is left of the slice goes over those behind
  sliced-both : (slice : Option (ℕ × ℕ)) (xs ys : List X) → sliced slice (xs ++ ys) ≡ sliced slice xs ++ sliced (slice_after (length xs) slice) ys
  sliced-both None xs ys = refl
  sliced-both (Some s) xs ys =
      ap (take s.1) (drop-both s.0 xs ys)
      ∙ take-both s.1 (drop s.0 xs) (drop (s.0 - length xs) ys)
      ∙ ap (λ (k : ℕ). take s.1 (drop s.0 xs) ++ take (s.1 - k) (drop (s.0 - length xs) ys)) (length-drop s.0 xs)

  sliced-none : (slice : Option (ℕ × ℕ)) → [] ≡ sliced {X = X} slice []
  sliced-none None = refl
  sliced-none (Some s) = sym (ap (take s.1) (drop_all s.0 [] (omega arith)) ∙ take_all s.1 [] (omega arith))

  -- so the parts in lists keep what the slice keeps of all of them
  pub parts-keep : (slice : Option (ℕ × ℕ)) (lists : List (List X)) → kept_of (parts_of (map (λ xs. length xs) lists) slice) lists ≡ sliced slice (flat_map (λ xs. xs) lists)
  parts-keep slice [] = sliced-none slice
  parts-keep slice (xs ∷ lists) =
      (λ i. kept-part slice xs i ++ parts-keep (slice_after (length xs) slice) lists i)
      ∙ sym (sliced-both slice xs (flat_map (λ ys. ys) lists))
