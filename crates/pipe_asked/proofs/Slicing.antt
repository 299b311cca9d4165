-- What a slice keeps of lists that follow each other.
use Rattle.std.proofs.Common.{◌≡◌, ℕ, zero, suc, ◌-◌, List, [], ◌∷◌, ◌++◌, length, refl, ap, ◌∙◌, arith, Option, Some, None, take, drop}
use Rattle.std.proofs.lemmas.List.{length-drop}
use Rattle.pipe_columns.specs.Slice.{sliced}
use Rattle.pipe_groups.specs.Given.{slice_after}

-- dropping goes on behind a list
drop-on : {X : Type 0} (n : ℕ) (xs ys : List X) → drop n (xs ++ ys) ≡ drop n xs ++ drop (n - length xs) ys
drop-on zero xs ys = ap (λ k. xs ++ drop k ys) {x = 0} {y = 0 - length xs} (omega arith)
drop-on (suc n) [] ys = ap (λ k. drop k ys) {x = suc n} {y = suc n - 0} (omega arith)
drop-on (suc n) (x ∷ xs) ys = drop-on n xs ys ∙ ap (λ k. drop n xs ++ drop k ys) {x = n - length xs} {y = suc n - suc (length xs)} (omega arith)

-- and so does taking
take-on : {X : Type 0} (n : ℕ) (xs ys : List X) → take n (xs ++ ys) ≡ take n xs ++ take (n - length xs) ys
take-on zero xs ys = ap (λ k. take k ys) {x = 0} {y = 0 - length xs} (omega arith)
take-on (suc n) [] ys = ap (λ k. take k ys) {x = suc n} {y = suc n - 0} (omega arith)
take-on (suc n) (x ∷ xs) ys = ap (λ l. x ∷ l) (take-on n xs ys) ∙ ap (λ k. x ∷ take n xs ++ take k ys) {x = n - length xs} {y = suc n - suc (length xs)} (omega arith)

-- a slice of two lists is that of the first, and then what is left of the slice of the second
pub sliced-append : {X : Type 0} (s : Option (ℕ × ℕ)) (xs ys : List X) → sliced s (xs ++ ys) ≡ sliced s xs ++ sliced (slice_after (length xs) s) ys
sliced-append None xs ys = refl
sliced-append (Some s) xs ys =
    ap (take s.1) (drop-on s.0 xs ys)
    ∙ take-on s.1 (drop s.0 xs) (drop (s.0 - length xs) ys)
    ∙ ap (λ k. take s.1 (drop s.0 xs) ++ take (s.1 - k) (drop (s.0 - length xs) ys)) (length-drop s.0 xs)

-- a slice without length keeps nothing
pub sliced-none : {X : Type 0} (offset : ℕ) (xs : List X) → sliced (Some (offset, 0)) xs ≡ []
sliced-none offset xs = refl
