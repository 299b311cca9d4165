-- Lists cut into pieces: how many there are, what stands in each, and what one more element does.
use Rattle.std.proofs.Common.{◌≡◌, ◌≢◌, ℕ, zero, suc, ◌+◌, ◌*◌, ◌/◌, ◌%◌, ◌<◌, ◌≤◌, List, [], ◌∷◌, ◌++◌, length, take, drop, refl, ap, sym, ◌∙◌, subst, arith, append_assoc, length-append, length-drop, ⊎_elim}
use Rattle.std.proofs.lemmas.List.{append-nil, take-append-drop, take_all, drop_all, length-take-le}
use Rattle.std.proofs.lemmas.Bool.{cases_lt}
use Rattle.std.proofs.Math.Seq.{take-append_seam, drop-append_seam, take-append-add, drop-append-add}
use Rattle.std.proofs.Math.Nat.{div-eq_of_lt, div-mul-le_self, mod-lt, mul-add-div_right}
use Rattle.std.proofs.lemmas.Nat.{div-add-mod', div-mul-add, le-div}
use Rattle.std.proofs.lemmas.Grind.{flat_map-append}
use Rattle.pipe_columns.specs.Pieces.{pieces, pieces_within}
use Rattle.pipe_plan.specs.Payloads.{full_pieces, rest_of}
use Rattle.pipe_plan.specs.Replay.{joined_lists}

-- ---- the pieces of a list

-- more pieces than there are elements change nothing
pub pieces_within-same : {A : Type 0} (n most more : ℕ) (xs : List A) → 0 < n → length xs ≤ most → length xs ≤ more → pieces_within most n xs ≡ pieces_within more n xs
pieces_within-same n zero zero xs some l m = refl
pieces_within-same n zero (suc more) [] some l m = refl
pieces_within-same n zero (suc more) (x ∷ xs) some l m = absurd (omega arith)
pieces_within-same n (suc most) zero [] some l m = refl
pieces_within-same n (suc most) zero (x ∷ xs) some l m = absurd (omega arith)
pieces_within-same n (suc most) (suc more) [] some l m = refl
pieces_within-same n (suc most) (suc more) (x ∷ xs) some l m =
    let shorter = length-drop n (x ∷ xs) in
    ap (λ ps. take n (x ∷ xs) ∷ ps) (pieces_within-same n most more (drop n (x ∷ xs)) some (omega arith) (omega arith))

-- a full piece in front is the first
pub pieces-full : {A : Type 0} (n : ℕ) (front xs : List A) → 0 < n → length front ≡ n → pieces n (front ++ xs) ≡ front ∷ pieces n xs
pieces-full n [] xs some is = absurd (omega arith)
pieces-full {A = A} n (x ∷ front) xs some is =
    let first : take n ((x ∷ front) ++ xs) ≡ x ∷ front = ap (λ k. take k ((x ∷ front) ++ xs)) (sym is) ∙ take-append_seam (x ∷ front) xs in
    let others : drop n ((x ∷ front) ++ xs) ≡ xs = ap (λ k. drop k ((x ∷ front) ++ xs)) (sym is) ∙ drop-append_seam (x ∷ front) xs in
    let long = length-append front xs in
    ap (λ (piece : List A). piece ∷ pieces_within (length (front ++ xs)) n (drop n ((x ∷ front) ++ xs))) first
    ∙ ap (λ (l : List A). (x ∷ front) ∷ pieces_within (length (front ++ xs)) n l) others
    ∙ ap (λ (ps : List (List A)). (x ∷ front) ∷ ps) (pieces_within-same n (length (front ++ xs)) (length xs) xs some (omega arith) (omega arith))

-- what is shorter than a piece is one piece, if it is anything
abbrev pub last_piece : {A : Type 0} → List A → List (List A)
last_piece [] = []
last_piece (x ∷ xs) = (x ∷ xs) ∷ []

-- such a list is its last piece
pub pieces-short : {A : Type 0} (n : ℕ) (xs : List A) → length xs < n → pieces n xs ≡ last_piece xs
pieces-short n [] lt = refl
pieces-short {A = A} n (x ∷ xs) lt =
    let none : drop n (x ∷ xs) ≡ [] = drop_all n (x ∷ xs) (omega arith) in
    ap (λ (piece : List A). piece ∷ pieces_within (length xs) n (drop n (x ∷ xs))) (take_all n (x ∷ xs) (omega arith))
    ∙ ap (λ (l : List A). (x ∷ xs) ∷ pieces_within (length xs) n l) none
    ∙ ap (λ (ps : List (List A)). (x ∷ xs) ∷ ps) (no_pieces (length xs))
  where
    no_pieces : (most : ℕ) → pieces_within {A = A} most n [] ≡ []
    no_pieces zero = refl
    no_pieces (suc most) = refl

-- ---- full pieces, and the rest

-- one more full piece in front is in all full ones
in_full-front : (n m : ℕ) → 0 < n → (n + m) / n * n ≡ n + m / n * n
in_full-front n m some =
    ap (λ k. k / n * n) {x = n + m} {y = 1 * n + m} (omega arith) ∙ ap (λ k. k * n) (mul-add-div_right some 1 m) ∙ omega arith

-- a full piece in front is the first full one
pub full-front : {A : Type 0} (n : ℕ) (front xs : List A) → 0 < n → length front ≡ n → full_pieces n (front ++ xs) ≡ front ∷ full_pieces n xs
full-front {A = A} n front xs some is =
    let m = length xs / n * n in
    let count : length (front ++ xs) / n * n ≡ length front + m =
    ap (λ k. k / n * n) {x = length (front ++ xs)} {y = n + length xs} (omega (arith, length-append front xs)) ∙ in_full-front n (length xs) some ∙ omega arith in
    ap (λ (k : ℕ). pieces n (take k (front ++ xs))) count
    ∙ ap (λ (l : List A). pieces n l) (take-append-add front xs m)
    ∙ pieces-full n front (take m xs) some is

-- a shorter list has none
pub full-short : {A : Type 0} (n : ℕ) (xs : List A) → length xs < n → full_pieces n xs ≡ []
full-short {A = A} n xs lt = ap (λ (k : ℕ). pieces n (take (k * n) xs)) (div-eq_of_lt lt) ∙ ap (λ (k : ℕ). pieces {A = A} n (take k xs)) {x = 0 * n} {y = 0} (omega arith)

-- it leaves the rest as it was
pub rest-front : {A : Type 0} (n : ℕ) (front xs : List A) → 0 < n → length front ≡ n → rest_of n (front ++ xs) ≡ rest_of n xs
rest-front {A = A} n front xs some is =
    let m = length xs / n * n in
    let count : length (front ++ xs) / n * n ≡ length front + m =
    ap (λ k. k / n * n) {x = length (front ++ xs)} {y = n + length xs} (omega (arith, length-append front xs)) ∙ in_full-front n (length xs) some ∙ omega arith in
    ap (λ (k : ℕ). drop k (front ++ xs)) count ∙ drop-append-add front xs m

-- a shorter list is its own rest
pub rest-short : {A : Type 0} (n : ℕ) (xs : List A) → length xs < n → rest_of n xs ≡ xs
rest-short n xs lt = ap (λ (k : ℕ). drop (k * n) xs) (div-eq_of_lt lt) ∙ ap (λ (k : ℕ). drop k xs) {x = 0 * n} {y = 0} (omega arith)

-- what holds of short lists, and with one more full piece in front, holds of all
pub by_pieces : {A : Type 0} (P : List A → Type 0) (n : ℕ) → 0 < n → ((xs : List A) → length xs < n → P xs)
    → ((front xs : List A) → length front ≡ n → P xs → P (front ++ xs)) → (xs : List A) → P xs
by_pieces {A = A} P n some short more xs = within (length xs) xs (omega arith)
  where
    within : (most : ℕ) (xs : List A) → length xs ≤ most → P xs
    within zero xs le = short xs (omega arith)
    within (suc most) xs le =
        ⊎_elim (λ lt. short xs lt)
        (λ ge. subst P (take-append-drop n xs) (more (take n xs) (drop n xs) (length-take-le n xs ge) (within most (drop n xs) (omega (arith, length-drop n xs)))))
        (cases_lt (length xs) n)

-- ---- what the parts have

-- full pieces are as many as the quotient
pub length-full : {A : Type 0} (n : ℕ) (xs : List A) → 0 < n → length (full_pieces n xs) ≡ length xs / n
length-full {A = A} n xs some = by_pieces (λ xs. length (full_pieces n xs) ≡ length xs / n) n some
    (λ xs lt. ap (λ (ps : List (List A)). length ps) (full-short n xs lt) ∙ sym (div-eq_of_lt lt))
    (λ front xs is e. ap (λ (ps : List (List A)). length ps) (full-front n front xs some is) ∙ ap (λ k. suc k) e
    ∙ (omega (arith, mul-add-div_right some 1 (length xs)) ∙ ap (λ k. k / n) {x = 1 * n + length xs} {y = length (front ++ xs)} (omega (arith, length-append front xs, is)))) xs

-- and the rest has the remainder
pub length-rest : {A : Type 0} (n : ℕ) (xs : List A) → 0 < n → length (rest_of n xs) ≡ length xs % n
length-rest n xs some = length-drop (length xs / n * n) xs ∙ omega (arith, div-add-mod' (length xs) n)

-- so the rest is shorter than a piece
pub rest-lt : {A : Type 0} (n : ℕ) (xs : List A) → 0 < n → length (rest_of n xs) < n
rest-lt n xs some = omega (arith, length-rest n xs some, mod-lt (length xs) some)

-- the pieces are the full ones and, if there is one, the rest
pub pieces-full_rest : {A : Type 0} (n : ℕ) (xs : List A) → 0 < n → pieces n xs ≡ full_pieces n xs ++ last_piece (rest_of n xs)
pieces-full_rest {A = A} n xs some = by_pieces (λ xs. pieces n xs ≡ full_pieces n xs ++ last_piece (rest_of n xs)) n some
    (λ xs lt. pieces-short n xs lt ∙ sym (ap (λ (l : List A). full_pieces n xs ++ last_piece l) (rest-short n xs lt) ∙ ap (λ ps. ps ++ last_piece xs) (full-short n xs lt)))
    (λ front xs is e. pieces-full n front xs some is ∙ ap (λ ps. front ∷ ps) e
    ∙ sym (ap (λ (l : List A). full_pieces n (front ++ xs) ++ last_piece l) (rest-front n front xs some is) ∙ ap (λ ps. ps ++ last_piece (rest_of n xs)) (full-front n front xs some is))) xs

-- full pieces and the rest are the list
pub joined-full_rest : {A : Type 0} (n : ℕ) (xs : List A) → 0 < n → joined_lists (full_pieces n xs) ++ rest_of n xs ≡ xs
joined-full_rest {A = A} n xs some = by_pieces (λ xs. joined_lists (full_pieces n xs) ++ rest_of n xs ≡ xs) n some
    (λ xs lt. ap (λ (ps : List (List A)). joined_lists ps ++ rest_of n xs) (full-short n xs lt) ∙ rest-short n xs lt)
    (λ front xs is e. ap (λ (ps : List (List A)). joined_lists ps ++ rest_of n (front ++ xs)) (full-front n front xs some is)
    ∙ ap (λ (l : List A). (front ++ joined_lists (full_pieces n xs)) ++ l) (rest-front n front xs some is)
    ∙ append_assoc front (joined_lists (full_pieces n xs)) (rest_of n xs) ∙ ap (λ l. front ++ l) e) xs

-- the pieces are the list
pub joined-pieces : {A : Type 0} (n : ℕ) (xs : List A) → 0 < n → joined_lists (pieces n xs) ≡ xs
joined-pieces {A = A} n xs some =
    ap (λ (ps : List (List A)). joined_lists ps) (pieces-full_rest n xs some)
    ∙ flat_map-append (λ (p : List A). p) (full_pieces n xs) (last_piece (rest_of n xs))
    ∙ ap (λ (l : List A). joined_lists (full_pieces n xs) ++ l) (joined-last (rest_of n xs))
    ∙ joined-full_rest n xs some
  where
    joined-last : (l : List A) → joined_lists (last_piece l) ≡ l
    joined-last [] = refl
    joined-last (x ∷ l) = append-nil (x ∷ l)

-- ---- more elements

-- full pieces stay, and those of the rest with what comes after follow
pub full-append : {A : Type 0} (n : ℕ) (xs ys : List A) → 0 < n → full_pieces n (xs ++ ys) ≡ full_pieces n xs ++ full_pieces n (rest_of n xs ++ ys)
full-append {A = A} n xs ys some = by_pieces (λ xs. full_pieces n (xs ++ ys) ≡ full_pieces n xs ++ full_pieces n (rest_of n xs ++ ys)) n some
    (λ xs lt. sym (ap (λ (l : List A). full_pieces n xs ++ full_pieces n (l ++ ys)) (rest-short n xs lt) ∙ ap (λ ps. ps ++ full_pieces n (xs ++ ys)) (full-short n xs lt)))
    (λ front xs is e. ap (λ (l : List A). full_pieces n l) (append_assoc front xs ys) ∙ full-front n front (xs ++ ys) some is ∙ ap (λ ps. front ∷ ps) e
    ∙ sym (ap (λ (l : List A). full_pieces n (front ++ xs) ++ full_pieces n (l ++ ys)) (rest-front n front xs some is) ∙ ap (λ ps. ps ++ full_pieces n (rest_of n xs ++ ys)) (full-front n front xs some is))) xs

-- and the rest is that of the rest with what comes after
pub rest-append : {A : Type 0} (n : ℕ) (xs ys : List A) → 0 < n → rest_of n (xs ++ ys) ≡ rest_of n (rest_of n xs ++ ys)
rest-append {A = A} n xs ys some = by_pieces (λ xs. rest_of n (xs ++ ys) ≡ rest_of n (rest_of n xs ++ ys)) n some
    (λ xs lt. sym (ap (λ (l : List A). rest_of n (l ++ ys)) (rest-short n xs lt)))
    (λ front xs is e. ap (λ (l : List A). rest_of n l) (append_assoc front xs ys) ∙ rest-front n front (xs ++ ys) some is ∙ e
    ∙ sym (ap (λ (l : List A). rest_of n (l ++ ys)) (rest-front n front xs some is))) xs

-- an element that fills a piece
pub full-filled : {A : Type 0} (n : ℕ) (xs : List A) (x : A) → 0 < n → length (rest_of n xs) + 1 ≡ n → full_pieces n (xs ++ x ∷ []) ≡ full_pieces n xs ++ (rest_of n xs ++ x ∷ []) ∷ []
full-filled {A = A} n xs x some is =
    let size : length (rest_of n xs ++ x ∷ []) ≡ n = omega (arith, length-append (rest_of n xs) (x ∷ [])) in
    full-append n xs (x ∷ []) some ∙ ap (λ ps. full_pieces n xs ++ ps)
    (ap (λ (l : List A). full_pieces n l) (sym (append-nil (rest_of n xs ++ x ∷ []))) ∙ full-front n (rest_of n xs ++ x ∷ []) [] some size ∙ ap (λ ps. (rest_of n xs ++ x ∷ []) ∷ ps) (full-short n [] (omega arith)))

-- then nothing is left
pub rest-filled : {A : Type 0} (n : ℕ) (xs : List A) (x : A) → 0 < n → length (rest_of n xs) + 1 ≡ n → rest_of n (xs ++ x ∷ []) ≡ []
rest-filled {A = A} n xs x some is =
    let size : length (rest_of n xs ++ x ∷ []) ≡ n = omega (arith, length-append (rest_of n xs) (x ∷ [])) in
    rest-append n xs (x ∷ []) some
    ∙ (ap (λ (l : List A). rest_of n l) (sym (append-nil (rest_of n xs ++ x ∷ []))) ∙ rest-front n (rest_of n xs ++ x ∷ []) [] some size ∙ rest-short n [] (omega arith))

-- an element that fills none
pub full-unfilled : {A : Type 0} (n : ℕ) (xs : List A) (x : A) → 0 < n → length (rest_of n xs) + 1 ≢ n → full_pieces n (xs ++ x ∷ []) ≡ full_pieces n xs
full-unfilled n xs x some not =
    let short : length (rest_of n xs ++ x ∷ []) < n = omega (arith, length-append (rest_of n xs) (x ∷ []), rest-lt n xs some, not) in
    full-append n xs (x ∷ []) some ∙ ap (λ ps. full_pieces n xs ++ ps) (full-short n (rest_of n xs ++ x ∷ []) short) ∙ append-nil (full_pieces n xs)

-- then it joins the rest
pub rest-unfilled : {A : Type 0} (n : ℕ) (xs : List A) (x : A) → 0 < n → length (rest_of n xs) + 1 ≢ n → rest_of n (xs ++ x ∷ []) ≡ rest_of n xs ++ x ∷ []
rest-unfilled n xs x some not =
    let short : length (rest_of n xs ++ x ∷ []) < n = omega (arith, length-append (rest_of n xs) (x ∷ []), rest-lt n xs some, not) in
    rest-append n xs (x ∷ []) some ∙ rest-short n (rest_of n xs ++ x ∷ []) short

-- ---- numbers of full pieces

-- more elements make no fewer
pub div-mono : (n m b : ℕ) → 0 < b → n ≤ m → n / b ≤ m / b
div-mono n m b some le = le-div (n / b) m b some (omega (arith, div-mul-le_self n b))

-- one more element makes one more, or none
pub div-filled : (n b : ℕ) → 0 < b → n % b + 1 ≡ b → (n + 1) / b ≡ n / b + 1
div-filled n b some is =
    let e : (n / b + 1) * b + 0 ≡ n + 1 = omega (arith, div-add-mod' n b, is) in
    sym (ap (λ k. k / b) e) ∙ div-mul-add (n / b + 1) b 0 some

-- or no more
pub div-unfilled : (n b : ℕ) → 0 < b → n % b + 1 ≢ b → (n + 1) / b ≡ n / b
div-unfilled n b some not =
    let lt : n % b + 1 < b = omega (arith, mod-lt n some, not) in
    let e : n / b * b + (n % b + 1) ≡ n + 1 = omega (arith, div-add-mod' n b) in
    sym (ap (λ k. k / b) e) ∙ div-mul-add (n / b) b (n % b + 1) lt
