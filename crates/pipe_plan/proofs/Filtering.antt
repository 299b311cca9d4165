-- What filters keep, and how they count.
use Rattle.std.proofs.Common.{◌≡◌, ◌+◌, Bool, true, false, ◌&&◌, cond, List, [], ◌∷◌, ◌++◌, length, refl, ap, sym, ◌∙◌, arith}
use Rattle.std.specs.List.{count_by, filter}
use Rattle.std.proofs.lemmas.List.Sums.{length-filter}
use Rattle.pipe_model.proofs.CountFacts.{count-cons}

-- the step of a filter, by the test of the first element
pub filter-yes : {A : Type 0} (test : A → Bool) (x : A) (xs : List A) → test x ≡ true → filter test (x ∷ xs) ≡ x ∷ filter test xs
filter-yes test x xs is = ap (λ b. cond b (x ∷ filter test xs) (filter test xs)) is

-- and where it fails
pub filter-no : {A : Type 0} (test : A → Bool) (x : A) (xs : List A) → test x ≡ false → filter test (x ∷ xs) ≡ filter test xs
filter-no test x xs is = ap (λ b. cond b (x ∷ filter test xs) (filter test xs)) is

-- tests that answer alike keep the same
pub filter-same : {A : Type 0} (test other : A → Bool) (xs : List A) → ((x : A) → test x ≡ other x) → filter test xs ≡ filter other xs
filter-same {A = A} test other xs same = ap (λ (t : A → Bool). filter t xs) (λ i x. same x i)

-- and so do tests that answer alike at each element of the list
pub filter-within : {A : Type 0} (test other : A → Bool) (xs : List A) → ((front back : List A) (x : A) → xs ≡ front ++ x ∷ back → test x ≡ other x)
    → filter test xs ≡ filter other xs
filter-within test other [] same = refl
filter-within {A = A} test other (x ∷ xs) same =
    ap (λ (b : Bool). cond b (x ∷ filter test xs) (filter test xs)) (same [] xs x refl)
    ∙ ap (λ (l : List A). cond (other x) (x ∷ l) l) (filter-within test other xs (λ front back y is. same (x ∷ front) back y (ap (λ l. x ∷ l) is)))

-- a test that no element passes keeps nothing
pub filter-none : {A : Type 0} (test : A → Bool) (xs : List A) → ((front back : List A) (x : A) → xs ≡ front ++ x ∷ back → test x ≡ false) → filter test xs ≡ []
filter-none test xs none = filter-within test (λ x. false) xs none ∙ never xs
  where
    never : {A : Type 0} (xs : List A) → filter (λ x. false) xs ≡ []
    never [] = refl
    never (x ∷ xs) = never xs

-- a test that each element passes keeps all
pub filter-all : {A : Type 0} (test : A → Bool) (xs : List A) → ((front back : List A) (x : A) → xs ≡ front ++ x ∷ back → test x ≡ true) → filter test xs ≡ xs
filter-all test xs all = filter-within test (λ x. true) xs all ∙ always xs
  where
    always : {A : Type 0} (xs : List A) → filter (λ x. true) xs ≡ xs
    always [] = refl
    always (x ∷ xs) = ap (λ l. x ∷ l) (always xs)

-- two filters are one
pub filter-filter : {A : Type 0} (test other : A → Bool) (xs : List A) → filter test (filter other xs) ≡ filter (λ x. other x && test x) xs
filter-filter test other [] = refl
filter-filter {A = A} test other (x ∷ xs) =
    let rest : filter test (filter other xs) ≡ filter (λ x. other x && test x) xs = filter-filter test other xs in
    elim (other x) as (λ b. filter test (cond b (x ∷ filter other xs) (filter other xs)) ≡ cond (b && test x) (x ∷ filter (λ x. other x && test x) xs) (filter (λ x. other x && test x) xs)) [
      | true ↦ ap (λ (l : List A). cond (test x) (x ∷ l) l) rest
      | false ↦ rest
    ]

-- in either order
pub filter-swap : {A : Type 0} (test other : A → Bool) (xs : List A) → filter test (filter other xs) ≡ filter other (filter test xs)
filter-swap test other xs =
    filter-filter test other xs
    ∙ filter-same (λ x. other x && test x) (λ x. test x && other x) xs (λ x. and-swap (other x) (test x))
    ∙ sym (filter-filter other test xs)
  where
    and-swap : (a b : Bool) → (a && b) ≡ (b && a)
    and-swap true true = refl
    and-swap true false = refl
    and-swap false true = refl
    and-swap false false = refl

-- ---- counts

-- a test counts in what another keeps where both pass
pub count-filter : {A : Type 0} (test keep : A → Bool) (xs : List A) → count_by test (filter keep xs) ≡ count_by (λ x. keep x && test x) xs
count-filter test keep [] = refl
count-filter {A = A} test keep (x ∷ xs) =
    let rest : count_by test (filter keep xs) ≡ count_by (λ x. keep x && test x) xs = count-filter test keep xs in
    elim (keep x) as (λ b. count_by test (cond b (x ∷ filter keep xs) (filter keep xs)) ≡ cond (b && test x) 1 0 + count_by (λ x. keep x && test x) xs) [
      | true ↦ count-cons test x (filter keep xs) ∙ ap (λ n. cond (test x) 1 0 + n) rest
      | false ↦ omega (arith, rest)
    ] ∙ sym (count-cons (λ x. keep x && test x) x xs)

-- tests that answer alike count alike
pub count-same : {A : Type 0} (test other : A → Bool) (xs : List A) → ((x : A) → test x ≡ other x) → count_by test xs ≡ count_by other xs
count-same {A = A} test other xs same = ap (λ (t : A → Bool). count_by t xs) (λ i x. same x i)

-- a test that no element passes counts none
pub count-none : {A : Type 0} (test : A → Bool) (xs : List A) → ((front back : List A) (x : A) → xs ≡ front ++ x ∷ back → test x ≡ false) → count_by test xs ≡ 0
count-none {A = A} test xs none = sym (length-filter test xs) ∙ ap (λ (l : List A). length l) (filter-none test xs none)

-- a test that each element passes counts all
pub count-all : {A : Type 0} (test : A → Bool) (xs : List A) → ((front back : List A) (x : A) → xs ≡ front ++ x ∷ back → test x ≡ true) → count_by test xs ≡ length xs
count-all {A = A} test xs all = sym (length-filter test xs) ∙ ap (λ (l : List A). length l) (filter-all test xs all)

-- tests that answer alike at each element count alike
pub count-within : {A : Type 0} (test other : A → Bool) (xs : List A) → ((front back : List A) (x : A) → xs ≡ front ++ x ∷ back → test x ≡ other x) → count_by test xs ≡ count_by other xs
count-within {A = A} test other xs same = sym (length-filter test xs) ∙ ap (λ (l : List A). length l) (filter-within test other xs same) ∙ length-filter other xs
