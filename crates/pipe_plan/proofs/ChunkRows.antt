-- The rows of chunks stand in the order of the chunks' positions.
use Rattle.std.proofs.Common.{◌≡◌, ℕ, zero, suc, ◌+◌, ◌<◌, ◌≤◌, Bool, true, false, cond, List, [], ◌∷◌, ◌++◌, length, map, refl, ap, sym, ◌∙◌, subst, arith, append_assoc}
use Rattle.std.specs.List.{AllByRecursion, filter, range_with_len}
use Rattle.pipe_columns.specs.declared.data_chunk.DataChunk.{DataChunk}
use Rattle.pipe_columns.specs.Frame.{FrameData}
use Rattle.pipe_columns.specs.Row.{Row}
use Rattle.pipe_model.specs.Query.{QueryTree}
use Rattle.pipe_model.specs.Rows.{chunk_rows, row_of, rows_from}

-- ---- facts of each element

-- what holds of each element holds of one
pub each-one : {A : Type 0} (P : A → Type 0) (front back : List A) (x : A) → AllByRecursion P (front ++ x ∷ back) → P x
each-one P [] back x all = all.0
each-one P (y ∷ front) back x all = each-one P front back x all.1

-- and of one that an equal list shows
pub each-at : {A : Type 0} (P : A → Type 0) (xs front back : List A) (x : A) → AllByRecursion P xs → xs ≡ front ++ x ∷ back → P x
each-at P xs front back x all is = each-one P front back x (subst (AllByRecursion P) is all)

-- what holds in two lists holds in both together
pub each-append : {A : Type 0} (P : A → Type 0) (xs ys : List A) → AllByRecursion P xs → AllByRecursion P ys → AllByRecursion P (xs ++ ys)
each-append P [] ys all others = others
each-append P (x ∷ xs) ys all others = (all.0, each-append P xs ys all.1 others)

-- what holds of each image
pub each-map : {A B : Type 0} (P : B → Type 0) (f : A → B) (xs : List A) → ((x : A) → P (f x)) → AllByRecursion P (map f xs)
each-map P f [] all = tt
each-map P f (x ∷ xs) all = (all x, each-map P f xs all)

-- what holds of all holds in a list
pub each-any : {A : Type 0} (P : A → Type 0) (xs : List A) → ((x : A) → P x) → AllByRecursion P xs
each-any P [] all = tt
each-any P (x ∷ xs) all = (all x, each-any P xs all)

-- what holds in a list holds in its front
pub each-front : {A : Type 0} (P : A → Type 0) (xs ys : List A) → AllByRecursion P (xs ++ ys) → AllByRecursion P xs
each-front P [] ys all = tt
each-front P (x ∷ xs) ys all = (all.0, each-front P xs ys all.1)

-- what follows from what holds
pub each-more : {A : Type 0} (P Q : A → Type 0) (xs : List A) → ((x : A) → P x → Q x) → AllByRecursion P xs → AllByRecursion Q xs
each-more P Q [] more all = tt
each-more P Q (x ∷ xs) more all = (more x all.0, each-more P Q xs more all.1)

-- what holds in a list holds of what a filter keeps
pub each-filter : {A : Type 0} (P : A → Type 0) (test : A → Bool) (xs : List A) → AllByRecursion P xs → AllByRecursion P (filter test xs)
each-filter P test [] all = tt
each-filter P test (x ∷ xs) all =
    let rest = each-filter P test xs all.1 in
    elim (test x) as (λ b. AllByRecursion P (cond b (x ∷ filter test xs) (filter test xs))) [ true ↦ (all.0, rest) | false ↦ rest ]

-- ---- ranges of numbers

-- one range behind another
pub range-append : (a n m : ℕ) → range_with_len a (n + m) ≡ range_with_len a n ++ range_with_len (a + n) m
range-append a zero m = ap (λ k. range_with_len a k) {x = 0 + m} {y = m} (omega arith) ∙ ap (λ k. range_with_len k m) {x = a} {y = a + 0} (omega arith)
range-append a (suc n) m =
    ap (λ k. range_with_len a k) {x = suc n + m} {y = suc (n + m)} (omega arith)
    ∙ ap (λ l. a ∷ l) (range-append (a + 1) n m ∙ ap (λ k. range_with_len (a + 1) n ++ range_with_len k m) {x = a + 1 + n} {y = a + suc n} (omega arith))

-- the numbers of a range lie below its end
pub range-before : (a n : ℕ) → AllByRecursion (λ i. i < a + n) (range_with_len a n)
range-before a zero = tt
range-before a (suc n) = (omega arith, each-more (λ i. i < a + 1 + n) (λ i. i < a + suc n) (range_with_len (a + 1) n) (λ i lt. omega arith) (range-before (a + 1) n))

-- and not below its start
pub range-behind : (a n : ℕ) → AllByRecursion (λ i. a ≤ i) (range_with_len a n)
range-behind a zero = tt
range-behind a (suc n) = (omega arith, each-more (λ i. a + 1 ≤ i) (λ i. a ≤ i) (range_with_len (a + 1) n) (λ i le. omega arith) (range-behind (a + 1) n))

-- a number of a range lies within
pub range-at : (n : ℕ) (front back : List ℕ) (i : ℕ) → range_with_len 0 n ≡ front ++ i ∷ back → i < n
range-at n front back i is = let lt : i < 0 + n = each-at (λ i. i < 0 + n) (range_with_len 0 n) front back i (range-before 0 n) is in omega arith

-- ---- positions

-- the rows of a chunk stand at its position
pub chunk_rows-at : (q : QueryTree) (i : ℕ) (frame : FrameData) → AllByRecursion (λ x. x.place.chunk ≡ i) (chunk_rows q i frame)
chunk_rows-at q i frame = each-map (λ (x : Row). x.place.chunk ≡ i) (row_of q i frame) (range_with_len 0 frame.height) (λ n. refl)

-- the rows of chunks from a position on stand there or behind
pub rows-behind : (q : QueryTree) (i : ℕ) (cs : List DataChunk) → AllByRecursion (λ x. i ≤ x.place.chunk) (rows_from q i cs)
rows-behind q i [] = tt
rows-behind q i (c ∷ cs) =
    each-append (λ (x : Row). i ≤ x.place.chunk) (chunk_rows q i c.frame) (rows_from q (i + 1) cs)
    (each-more (λ (x : Row). x.place.chunk ≡ i) (λ (x : Row). i ≤ x.place.chunk) (chunk_rows q i c.frame) (λ x is. omega arith) (chunk_rows-at q i c.frame))
    (each-more (λ (x : Row). i + 1 ≤ x.place.chunk) (λ (x : Row). i ≤ x.place.chunk) (rows_from q (i + 1) cs) (λ x le. omega arith) (rows-behind q (i + 1) cs))

-- and before the position behind the last chunk
pub rows-before : (q : QueryTree) (i : ℕ) (cs : List DataChunk) → AllByRecursion (λ x. x.place.chunk < i + length cs) (rows_from q i cs)
rows-before q i [] = tt
rows-before q i (c ∷ cs) =
    each-append (λ (x : Row). x.place.chunk < i + length (c ∷ cs)) (chunk_rows q i c.frame) (rows_from q (i + 1) cs)
    (each-more (λ (x : Row). x.place.chunk ≡ i) (λ (x : Row). x.place.chunk < i + length (c ∷ cs)) (chunk_rows q i c.frame) (λ x is. omega arith) (chunk_rows-at q i c.frame))
    (each-more (λ (x : Row). x.place.chunk < i + 1 + length cs) (λ (x : Row). x.place.chunk < i + length (c ∷ cs)) (rows_from q (i + 1) cs) (λ x lt. omega arith) (rows-before q (i + 1) cs))

-- more chunks bring their rows behind
pub rows-append : (q : QueryTree) (i : ℕ) (cs ds : List DataChunk) → rows_from q i (cs ++ ds) ≡ rows_from q i cs ++ rows_from q (i + length cs) ds
rows-append q i [] ds = ap (λ n. rows_from q n ds) {x = i} {y = i + 0} (omega arith)
rows-append q i (c ∷ cs) ds =
    ap (λ l. chunk_rows q i c.frame ++ l) (rows-append q (i + 1) cs ds)
    ∙ sym (append_assoc (chunk_rows q i c.frame) (rows_from q (i + 1) cs) (rows_from q (i + 1 + length cs) ds))
    ∙ ap (λ n. (chunk_rows q i c.frame ++ rows_from q (i + 1) cs) ++ rows_from q n ds) {x = i + 1 + length cs} {y = i + length (c ∷ cs)} (omega arith)
