-- Lists of what is wanted, element by element.
use Rattle.std.proofs.Common.{◌≡◌, ◌∙◌, ◌≤◌, ◌<◌, ◌+◌, ℕ, zero, suc, Bool, true, false, if◌then◌else◌, List, [], ◌∷◌, ◌++◌, length, drop, get_or, append_assoc, add-one, map, refl, sym, ap}
use Rattle.std.proofs.lemmas.List.{drop_all, drop_more, append-nil}
use Rattle.pipe_columns.specs.Frame.{FrameData, fields_of}
use Rattle.narrow_columns.specs.Wanted.{chosen, is_wanted, narrowed_frame}

-- of none nothing is wanted
pub chosen-nil : {A : Type 0} (ws : List Bool) → chosen {A = A} ws [] ≡ []
chosen-nil [] = refl
chosen-nil (w ∷ ws) = refl

-- what is wanted of more, by whether the first is
pub chosen-step : {A : Type 0} (ws : List Bool) (i : ℕ) (x : A) (xs : List A) → chosen (drop i ws) (x ∷ xs) ≡ (if is_wanted ws i then x ∷ chosen (drop (suc i) ws) xs else chosen (drop (suc i) ws) xs)
chosen-step [] zero x xs = refl
chosen-step [] (suc i) x xs = refl
chosen-step (w ∷ ws) zero x xs = refl
chosen-step (w ∷ ws) (suc i) x xs = chosen-step ws i x xs

-- what is wanted of what a function makes
pub chosen-map : {A B : Type 0} (f : A → B) (ws : List Bool) (xs : List A) → chosen ws (map f xs) ≡ map f (chosen ws xs)
chosen-map f [] xs = refl
chosen-map f (w ∷ ws) [] = refl
chosen-map f (true ∷ ws) (x ∷ xs) = ap (λ (t : List _). f x ∷ t) (chosen-map f ws xs)
chosen-map f (false ∷ ws) (x ∷ xs) = chosen-map f ws xs

-- the fields of the wanted columns are the wanted fields
pub narrowed-fields : (ws : List Bool) (frame : FrameData) → fields_of (narrowed_frame ws frame).columns ≡ chosen ws (fields_of frame.columns)
narrowed-fields ws frame = sym (chosen-map _ ws frame.columns)

-- the same at the next place
chosen-next : {A : Type 0} (ws : List Bool) (i : ℕ) (x : A) (xs : List A) (b : Bool) → is_wanted ws i ≡ b → chosen (drop i ws) (x ∷ xs) ≡ (if b then x ∷ chosen (drop (i + 1) ws) xs else chosen (drop (i + 1) ws) xs)
chosen-next ws i x xs b e = rw (add-one, ← e) (chosen-step ws i x xs)

-- what is left of a list, of which some is wanted
chosen-here : {A : Type 0} (ws : List Bool) (xs : List A) (i : ℕ) (x : A) → i < length xs → x ≡ get_or xs i x → chosen (drop i ws) (drop i xs) ≡ chosen (drop i ws) (x ∷ drop (i + 1) xs)
chosen-here ws xs i x h e = ap (chosen (drop i ws)) (drop_more xs i x h ∙ ap (λ y. y ∷ drop (i + 1) xs) (sym e))

-- the wanted ones so far, and those of the rest: one more is wanted
pub chosen-kept : {A : Type 0} (ws : List Bool) (xs whole kept : List A) (i : ℕ) (x : A) → i < length xs → x ≡ get_or xs i x → is_wanted ws i ≡ true → whole ≡ kept ++ chosen (drop i ws) (drop i xs)
    → whole ≡ (kept ++ (x ∷ [])) ++ chosen (drop (i + 1) ws) (drop (i + 1) xs)
chosen-kept ws xs whole kept i x h e w inv =
    inv ∙ ap (λ t. kept ++ t) (chosen-here ws xs i x h e ∙ chosen-next ws i x (drop (i + 1) xs) true w)
    ∙ sym (append_assoc kept (x ∷ []) (chosen (drop (i + 1) ws) (drop (i + 1) xs)))

-- one more is not
pub chosen-left : {A : Type 0} (ws : List Bool) (xs whole kept : List A) (i : ℕ) (x : A) → i < length xs → x ≡ get_or xs i x → is_wanted ws i ≡ false → whole ≡ kept ++ chosen (drop i ws) (drop i xs)
    → whole ≡ kept ++ chosen (drop (i + 1) ws) (drop (i + 1) xs)
chosen-left ws xs whole kept i x h e w inv = inv ∙ ap (λ t. kept ++ t) (chosen-here ws xs i x h e ∙ chosen-next ws i x (drop (i + 1) xs) false w)

-- none is left
pub chosen-end : {A : Type 0} (ws : List Bool) (xs whole kept : List A) (i : ℕ) → length xs ≤ i → whole ≡ kept ++ chosen (drop i ws) (drop i xs) → whole ≡ kept
chosen-end ws xs whole kept i h inv = inv ∙ ap (λ t. kept ++ t) (ap (chosen (drop i ws)) (drop_all i xs h) ∙ chosen-nil (drop i ws)) ∙ append-nil kept
