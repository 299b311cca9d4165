-- A stable sort by a number is the one that definitions have.
use Rattle.std.proofs.Common.{◌≡◌, ◌∙◌, ◌<◌, ◌≤◌, ℕ, zero, suc, Bool, true, false, cond, leb, List, [], ◌∷◌, length, get_or, filter, nat_cmp, is_lt, refl, sym, ap, arith, inl, inr, suc-le-suc, zero-le}
use Rattle.std.proofs.lemmas.Bool.{cond-true, cond-false, cases_Bool, leb-true, leb-false}
use Rattle.std.proofs.lemmas.Bool.Decides.{nat_tests}
use Rattle.std.proofs.lemmas.List.Sorted.{IsNonDecreasingBy-from_sort}
use Rattle.std.specs.List.Sorted.{ties, IsNonDecreasingBy, IsSortedByKey, IsStableByKey}
use Rattle.pipe_columns.specs.declared.data_chunk.DataChunk.{DataChunk}
use Rattle.pipe_writers.specs.WriteOrder.{put_in, by_number}

-- the number of a chunk
abbrev number : DataChunk → ℕ
number chunk = chunk.chunk_index

-- two chunks of one number
abbrev same : DataChunk → DataChunk → Bool
same = ties (λ x y. is_lt (nat_cmp (number x) (number y)))

ties_at : (m n : ℕ) → (ties (λ x y. is_lt (nat_cmp x y)) m n ≡ true → m ≡ n) × (m ≡ n → ties (λ x y. is_lt (nat_cmp x y)) m n ≡ true)
ties_at m n = (λ h. grind (arith, nat_tests), λ h. grind (arith, nat_tests))

same-true : (x y : DataChunk) → same x y ≡ true → number x ≡ number y
same-true x y = (ties_at (number x) (number y)).0

same_from : (x y : DataChunk) → number x ≡ number y → same x y ≡ true
same_from x y = (ties_at (number x) (number y)).1

filter-kept : (p : DataChunk → Bool) (y : DataChunk) (ys : List DataChunk) → p y ≡ true → filter p (y ∷ ys) ≡ y ∷ filter p ys
filter-kept p y ys h = cond-true _ _ _ h

filter-dropped : (p : DataChunk → Bool) (y : DataChunk) (ys : List DataChunk) → p y ≡ false → filter p (y ∷ ys) ≡ filter p ys
filter-dropped p y ys h = cond-false _ _ _ h

put-stays : (c d : DataChunk) (ds : List DataChunk) → leb (number c) (number d) ≡ true → put_in c (d ∷ ds) ≡ c ∷ d ∷ ds
put-stays c d ds h = cond-true _ _ _ h

put-past : (c d : DataChunk) (ds : List DataChunk) → leb (number c) (number d) ≡ false → put_in c (d ∷ ds) ≡ d ∷ put_in c ds
put-past c d ds h = cond-false _ _ _ h

-- of each number the chunks stay in their order where one is put in
filter-put : (x c : DataChunk) (ds : List DataChunk) → filter (same x) (put_in c ds) ≡ filter (same x) (c ∷ ds)
filter-put x c [] = refl
filter-put x c (d ∷ ds) =
    let p = same x in
    elim (cases_Bool (leb (number c) (number d))) [
      | inl stays ↦ ap (filter p) (put-stays c d ds stays)
      | inr past ↦
          ap (filter p) (put-past c d ds past)
          ∙ elim (cases_Bool (p d)) [
            | inr without ↦
                filter-dropped p d (put_in c ds) without ∙ filter-put x c ds
                ∙ ap (λ (l : List DataChunk). cond (p c) (c ∷ l) l) (sym (filter-dropped p d ds without))
            | inl with ↦
                elim (cases_Bool (p c)) [
                  | inl both ↦ absurd (omega (arith, same-true x c both, same-true x d with, leb-false _ _ past))
                  | inr only ↦
                      filter-kept p d (put_in c ds) with ∙ ap (λ (l : List DataChunk). d ∷ l) (filter-put x c ds ∙ filter-dropped p c ds only)
                      ∙ sym (filter-dropped p c (d ∷ ds) only ∙ filter-kept p d ds with)
                ]
          ]
    ]

filter-by_number : (x : DataChunk) (cs : List DataChunk) → filter (same x) (by_number cs) ≡ filter (same x) cs
filter-by_number x [] = refl
filter-by_number x (c ∷ cs) =
    filter-put x c (by_number cs) ∙ ap (λ (l : List DataChunk). cond (same x c) (c ∷ l) l) (filter-by_number x cs)

abbrev AreAtLeast : ℕ → List DataChunk → Type 0
AreAtLeast n [] = Unit {0}
AreAtLeast n (y ∷ ys) = (n ≤ number y) × AreAtLeast n ys

abbrev Rises : List DataChunk → Type 0
Rises [] = Unit {0}
Rises (y ∷ ys) = AreAtLeast (number y) ys × Rises ys

AreAtLeast-le : (n m : ℕ) (ys : List DataChunk) → n ≤ m → AreAtLeast m ys → AreAtLeast n ys
AreAtLeast-le n m [] le h = tt
AreAtLeast-le n m (y ∷ ys) le h = let first = h.0 in (omega arith, AreAtLeast-le n m ys le h.1)

AreAtLeast-put : (n : ℕ) (c : DataChunk) (ds : List DataChunk) → n ≤ number c → AreAtLeast n ds → AreAtLeast n (put_in c ds)
AreAtLeast-put n c [] le h = (le, tt)
AreAtLeast-put n c (d ∷ ds) le h =
    elim (cases_Bool (leb (number c) (number d))) [
      | inl stays ↦ rw (put-stays c d ds stays) (le, h)
      | inr past ↦ rw (put-past c d ds past) (h.0, AreAtLeast-put n c ds le h.1)
    ]

Rises-put : (c : DataChunk) (ds : List DataChunk) → Rises ds → Rises (put_in c ds)
Rises-put c [] h = (tt, tt)
Rises-put c (d ∷ ds) h =
    elim (cases_Bool (leb (number c) (number d))) [
      | inl stays ↦
          let le = leb-true _ _ stays in
          rw (put-stays c d ds stays) ((le, AreAtLeast-le (number c) (number d) ds le h.0), h)
      | inr past ↦
          let lt = leb-false _ _ past in
          rw (put-past c d ds past) (AreAtLeast-put (number d) c ds (omega arith) h.0, Rises-put c ds h.1)
    ]

Rises-by_number : (cs : List DataChunk) → Rises (by_number cs)
Rises-by_number [] = tt
Rises-by_number (c ∷ cs) = Rises-put c (by_number cs) (Rises-by_number cs)

AreAtLeast-at : (d : DataChunk) (n : ℕ) (ys : List DataChunk) → ((j : ℕ) → j < length ys → n ≤ number (get_or ys j d)) → AreAtLeast n ys
AreAtLeast-at d n [] h = tt
AreAtLeast-at d n (y ∷ ys) h = (h zero (suc-le-suc zero-le), AreAtLeast-at d n ys (λ j lt. h (suc j) (suc-le-suc lt)))

Rises-from_sort : (ys : List DataChunk) → IsNonDecreasingBy number ys → Rises ys
Rises-from_sort [] h = tt
Rises-from_sort (y ∷ ys) h = (
  AreAtLeast-at y (number y) ys (λ j lt. h zero (suc j) y zero-le (suc-le-suc lt)),
  Rises-from_sort ys (λ i j d le lt. h (suc i) (suc j) d (suc-le-suc le) (suc-le-suc lt)),
)

AreAtLeast-found : (n : ℕ) (x : DataChunk) (ys : List DataChunk) (w : DataChunk) (ws : List DataChunk) → AreAtLeast n ys → filter (same x) ys ≡ w ∷ ws → n ≤ number x
AreAtLeast-found n x [] w ws h e = cc
AreAtLeast-found n x (y ∷ ys) w ws h e =
    elim (cases_Bool (same x y)) [
      | inl with ↦ omega (arith, h.0, same-true x y with)
      | inr without ↦ AreAtLeast-found n x ys w ws h.1 (sym (filter-dropped (same x) y ys without) ∙ e)
    ]

-- lists that rise, and have the same chunks of each number, are the same
same_from_classes : (ys zs : List DataChunk) → Rises ys → Rises zs → ((x : DataChunk) → filter (same x) ys ≡ filter (same x) zs) → ys ≡ zs
same_from_classes [] [] left right alike = refl
same_from_classes [] (z ∷ zs) left right alike =
    let clash = alike z ∙ filter-kept (same z) z zs (same_from z z refl) in cc
same_from_classes (y ∷ ys) [] left right alike =
    let clash = sym (alike y) ∙ filter-kept (same y) y ys (same_from y y refl) in cc
same_from_classes (y ∷ ys) (z ∷ zs) left right alike =
    let at_y = filter-kept (same y) y ys (same_from y y refl) in
    let at_z = filter-kept (same z) z zs (same_from z z refl) in
    let up = AreAtLeast-found (number z) y (z ∷ zs) y _ (omega arith, right.0) (sym (alike y) ∙ at_y) in
    let down = AreAtLeast-found (number y) z (y ∷ ys) z _ (omega arith, left.0) (alike z ∙ at_z) in
    let heads = sym at_y ∙ alike y ∙ filter-kept (same y) z zs (same_from y z (omega arith)) in
    let head : y ≡ z = cc in
    let tails : (x : DataChunk) → filter (same x) ys ≡ filter (same x) zs =
    λ x. elim (cases_Bool (same x y)) [
      | inl with ↦
          let both = sym (filter-kept (same x) y ys with) ∙ alike x ∙ filter-kept (same x) z zs (ap (same x) (sym head) ∙ with) in cc
      | inr without ↦
          sym (filter-dropped (same x) y ys without) ∙ alike x ∙ filter-dropped (same x) z zs (ap (same x) (sym head) ∙ without)
    ] in
    ap (λ w. w ∷ ys) head ∙ ap (λ l. z ∷ l) (same_from_classes ys zs left.1 right.1 tails)

-- what a stable sort gives
pub sorted-by_number : (xs ys : List DataChunk) → IsSortedByKey number nat_cmp ys → IsStableByKey number nat_cmp xs ys → ys ≡ by_number xs
sorted-by_number xs ys sorted stable =
    same_from_classes ys (by_number xs) (Rises-from_sort ys (IsNonDecreasingBy-from_sort number ys sorted)) (Rises-by_number xs)
    (λ x. stable x ∙ sym (filter-by_number x xs))
