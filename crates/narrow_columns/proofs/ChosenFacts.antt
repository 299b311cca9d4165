-- What is wanted of lists that grow, and how much of it there is.
use Rattle.std.proofs.Common.{◌≡◌, ◌∙◌, ◌≤◌, ◌<◌, ◌+◌, ℕ, zero, suc, Bool, true, false, if◌then◌else◌, List, [], ◌∷◌, ◌++◌, length, replicate, refl, sym, ap, arith}
use Rattle.std.proofs.lemmas.List.{append-nil}
use Rattle.narrow_columns.specs.Wanted.{chosen, is_wanted}
use Rattle.narrow_columns.proofs.WantedFacts.{chosen-nil}

-- an element in front of either of two lists
front-either : {A : Type 0} (b : Bool) (x : A) (xs ys : List A) → (if b then x ∷ xs else x ∷ ys) ≡ x ∷ (if b then xs else ys)
front-either true x xs ys = refl
front-either false x xs ys = refl

-- one more at the end, by whether it is wanted
chosen-push : {A : Type 0} (ws : List Bool) (xs : List A) (x : A) → chosen ws (xs ++ (x ∷ [])) ≡ (if is_wanted ws (length xs) then chosen ws xs ++ (x ∷ []) else chosen ws xs)
chosen-push [] [] x = refl
chosen-push [] (y ∷ ys) x = refl
chosen-push (true ∷ ws) [] x = ap (λ t. x ∷ t) (chosen-nil ws)
chosen-push (false ∷ ws) [] x = chosen-nil ws
chosen-push (true ∷ ws) (y ∷ ys) x = ap (λ t. y ∷ t) (chosen-push ws ys x) ∙ sym (front-either (is_wanted ws (length ys)) y (chosen ws ys ++ (x ∷ [])) (chosen ws ys))
chosen-push (false ∷ ws) (y ∷ ys) x = chosen-push ws ys x

-- it is
pub push-kept : {A : Type 0} (ws : List Bool) (xs : List A) (x : A) → is_wanted ws (length xs) ≡ true → chosen ws (xs ++ (x ∷ [])) ≡ chosen ws xs ++ (x ∷ [])
push-kept ws xs x h = chosen-push ws xs x ∙ rw h refl

-- it is not
pub push-left : {A : Type 0} (ws : List Bool) (xs : List A) (x : A) → is_wanted ws (length xs) ≡ false → chosen ws (xs ++ (x ∷ [])) ≡ chosen ws xs
push-left ws xs x h = chosen-push ws xs x ∙ rw h refl

-- before a wanted place fewer are wanted than in all
pub fewer-chosen : {A B : Type 0} (ws : List Bool) (done : List A) (all : List B) → length done < length all → is_wanted ws (length done) ≡ true → length (chosen ws done) < length (chosen ws all)
fewer-chosen [] done all h w = h
fewer-chosen (v ∷ ws) done [] h w = absurd (omega arith)
fewer-chosen (true ∷ ws) [] (x ∷ xs) h w = omega arith
fewer-chosen (false ∷ ws) [] (x ∷ xs) h w = cc
fewer-chosen (true ∷ ws) (y ∷ ys) (x ∷ xs) h w = let less = fewer-chosen ws ys xs (omega arith) w in omega arith
fewer-chosen (false ∷ ws) (y ∷ ys) (x ∷ xs) h w = fewer-chosen ws ys xs (omega arith) w

-- what stands behind the end of `wanted` is wanted
pub chosen-behind : {A : Type 0} (ws : List Bool) (xs ys : List A) → length ws ≤ length xs → chosen ws (xs ++ ys) ≡ chosen ws xs ++ ys
chosen-behind [] xs ys h = refl
chosen-behind (w ∷ ws) [] ys h = absurd (omega arith)
chosen-behind (true ∷ ws) (x ∷ xs) ys h = ap (λ t. x ∷ t) (chosen-behind ws xs ys (omega arith))
chosen-behind (false ∷ ws) (x ∷ xs) ys h = chosen-behind ws xs ys (omega arith)

-- of copies as many as of anything as long
pub chosen-copies : {A B : Type 0} (ws : List Bool) (xs : List A) (y : B) → chosen ws (replicate (length xs) y) ≡ replicate (length (chosen ws xs)) y
chosen-copies [] xs y = refl
chosen-copies (w ∷ ws) [] y = refl
chosen-copies (true ∷ ws) (x ∷ xs) y = ap (λ t. y ∷ t) (chosen-copies ws xs y)
chosen-copies (false ∷ ws) (x ∷ xs) y = chosen-copies ws xs y
