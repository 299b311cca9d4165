-- The first n distinct elements of a list, as the elements come one by one.
use Rattle.std.proofs.Common.{◌≡◌, ℕ, ◌+◌, ◌<◌, ◌≤◌, zero, suc, ◌-◌, Bool, true, false, not, ◌&&◌, ◌||◌, List, [], ◌∷◌, ◌++◌, length, take, refl, ap, sym, ◌∙◌, arith, length-append, ⊎_elim}
use Rattle.std.specs.Prelude.{nat_lt}
use Rattle.std.specs.List.{filter}
use Rattle.std.specs.Set.{is_member}
use Rattle.std.proofs.lemmas.Bool.{cases_lt, cases_Bool, false≢true, le-ltb, lt-ltb}
use Rattle.std.proofs.lemmas.List.{append-nil, take-append-le, take_all, length-take}
use Rattle.std.proofs.lemmas.List.Elements.{filter-append}
use Rattle.std.proofs.Math.Seq.{take-append-add}
use Rattle.pipe_plan.specs.Rounds.{IsFront}
use Rattle.pipe_plan.specs.Kept.{distinct, first_distinct}
use Rattle.pipe_plan.proofs.Filtering.{filter-filter, filter-same, filter-all, filter-yes, filter-no}

-- a test of equality that is exact
pub record IsExact {A : Type 0} (same : A → A → Bool) : Type 0 where
  pub apart : (x y : A) → same x y ≡ true → x ≡ y
  pub itself : (x : A) → same x x ≡ true

-- elements join with those of another list that are not among them
pub distinct-append : {A : Type 0} (same : A → A → Bool) (xs ys : List A) → distinct same (xs ++ ys) ≡ distinct same xs ++ filter (λ y. not (is_member same xs y)) (distinct same ys)
distinct-append same [] ys = sym (filter-all (λ y. true) (distinct same ys) (λ front back x is. refl))
distinct-append {A = A} same (x ∷ xs) ys =
    let news = filter (λ y. not (is_member same xs y)) (distinct same ys) in
    ap (λ (l : List A). x ∷ filter (λ y. not (same y x)) l) (distinct-append same xs ys)
    ∙ ap (λ l. x ∷ l) (filter-append (λ y. not (same y x)) (distinct same xs) news)
    ∙ ap (λ l. x ∷ (filter (λ y. not (same y x)) (distinct same xs) ++ l))
    (filter-filter (λ y. not (same y x)) (λ y. not (is_member same xs y)) (distinct same ys)
    ∙ filter-same (λ y. not (is_member same xs y) && not (same y x)) (λ y. not (same y x || is_member same xs y)) (distinct same ys) (λ y. neither (same y x) (is_member same xs y)))
  where
    neither : (a b : Bool) → (not b && not a) ≡ not (a || b)
    neither true true = refl
    neither true false = refl
    neither false true = refl
    neither false false = refl

-- an element is in two lists together where it is in one
pub is_member-append : {A : Type 0} (same : A → A → Bool) (xs ys : List A) (q : A) → is_member same (xs ++ ys) q ≡ (is_member same xs q || is_member same ys q)
is_member-append same [] ys q = refl
is_member-append same (x ∷ xs) ys q = elim (same q x) as (λ c. (c || is_member same (xs ++ ys) q) ≡ ((c || is_member same xs q) || is_member same ys q)) [ true ↦ refl | false ↦ is_member-append same xs ys q ]

module _ {A : Type 0} (same : A → A → Bool) (exact : IsExact same) where
  -- a filter keeps an element that passes it
  is_member-filter : (x q : A) (ys : List A) → same q x ≡ false → is_member same (filter (λ y. not (same y x)) ys) q ≡ is_member same ys q
  is_member-filter x q [] apart = refl
  is_member-filter x q (y ∷ ys) apart =
      let rest = is_member-filter x q ys apart in
      ⊎_elim
      (λ yes. let gone : same q y ≡ false = ap (λ z. same q z) (exact.apart y x yes) ∙ apart in
      ap (λ (l : List A). is_member same l q) (filter-no (λ y. not (same y x)) y ys (ap not yes)) ∙ rest ∙ sym (ap (λ b. b || is_member same ys q) gone))
      (λ no. ap (λ (l : List A). is_member same l q) (filter-yes (λ y. not (same y x)) y ys (ap not no)) ∙ ap (λ b. same q y || b) rest)
      (cases_Bool (same y x))

  -- an element is in a list where it is among the distinct ones
  pub is_member-distinct : (xs : List A) (q : A) → is_member same (distinct same xs) q ≡ is_member same xs q
  is_member-distinct [] q = refl
  is_member-distinct (x ∷ xs) q = ⊎_elim
      (λ yes. ap (λ b. b || is_member same (filter (λ y. not (same y x)) (distinct same xs)) q) yes ∙ sym (ap (λ b. b || is_member same xs q) yes))
      (λ no. ap (λ b. same q x || b) (is_member-filter x q (distinct same xs) no ∙ is_member-distinct xs q))
      (cases_Bool (same q x))

-- no more than n are held
pub length-first : {A : Type 0} (same : A → A → Bool) (n : ℕ) (xs : List A) → length (first_distinct same n xs) ≤ n
length-first same n xs = omega (arith, length-take n (distinct same xs))

-- what is held stays held: with room all of it, without room nothing changes
held-append : {A : Type 0} (same : A → A → Bool) (n : ℕ) (xs ys : List A) → length (distinct same xs) ≤ n
    → first_distinct same n (xs ++ ys) ≡ distinct same xs ++ take (n - length (distinct same xs)) (filter (λ y. not (is_member same xs y)) (distinct same ys))
held-append {A = A} same n xs ys le =
    let news = filter (λ y. not (is_member same xs y)) (distinct same ys) in
    let room : n ≡ length (distinct same xs) + (n - length (distinct same xs)) = omega (arith, le) in
    ap (λ (l : List A). take n l) (distinct-append same xs ys)
    ∙ ap (λ k. take k (distinct same xs ++ news)) room
    ∙ take-append-add (distinct same xs) news (n - length (distinct same xs))

-- with room all distinct elements are held
held-all : {A : Type 0} (same : A → A → Bool) (n : ℕ) (xs : List A) → length (distinct same xs) ≤ n → first_distinct same n xs ≡ distinct same xs
held-all same n xs le = take_all n (distinct same xs) le

-- without room more elements change nothing
pub held-full : {A : Type 0} (same : A → A → Bool) (n : ℕ) (xs ys : List A) → n ≤ length (distinct same xs) → first_distinct same n (xs ++ ys) ≡ first_distinct same n xs
held-full {A = A} same n xs ys le =
    ap (λ (l : List A). take n l) (distinct-append same xs ys) ∙ take-append-le n (distinct same xs) (filter (λ y. not (is_member same xs y)) (distinct same ys)) le

-- as many are held as there are distinct ones, up to n
pub full_or_all : {A : Type 0} (same : A → A → Bool) (n : ℕ) (xs : List A) → n ≤ length (first_distinct same n xs) → n ≤ length (distinct same xs)
full_or_all same n xs le = omega (arith, length-take n (distinct same xs))

-- what is held begins what is held later
pub held-front : {A : Type 0} (same : A → A → Bool) (n : ℕ) (xs ys : List A) → IsFront (first_distinct same n xs) (first_distinct same n (xs ++ ys))
held-front {A = A} same n xs ys = ⊎_elim
    (λ lt. record {
      rest = take (n - length (distinct same xs)) (filter (λ y. not (is_member same xs y)) (distinct same ys));
      is = held-append same n xs ys (omega arith) ∙ ap (λ (l : List A). l ++ take (n - length (distinct same xs)) (filter (λ y. not (is_member same xs y)) (distinct same ys))) (sym (held-all same n xs (omega arith)));
    })
    (λ ge. record { rest = []; is = held-full same n xs ys ge ∙ sym (append-nil (first_distinct same n xs)) })
    (cases_lt (length (distinct same xs)) n)

module _ {A : Type 0} (same : A → A → Bool) (exact : IsExact same) where
  -- an element that came is held later only if it was held then
  pub held-decided : (n : ℕ) (xs ys : List A) (q : A) → is_member same xs q ≡ true → is_member same (first_distinct same n (xs ++ ys)) q ≡ is_member same (first_distinct same n xs) q
  held-decided n xs ys q came = ⊎_elim
      (λ lt.
      let held : is_member same (distinct same xs) q ≡ true = is_member-distinct same exact xs q ∙ came in
      let news = take (n - length (distinct same xs)) (filter (λ y. not (is_member same xs y)) (distinct same ys)) in
      ap (λ (l : List A). is_member same l q) (held-append same n xs ys (omega arith))
      ∙ is_member-append same (distinct same xs) news q
      ∙ ap (λ b. b || is_member same news q) held
      ∙ sym (ap (λ (l : List A). is_member same l q) (held-all same n xs (omega arith)) ∙ held))
      (λ ge. ap (λ (l : List A). is_member same l q) (held-full same n xs ys ge))
      (cases_lt (length (distinct same xs)) n)

  -- with room, an element that comes is held in the end
  held-one : (n : ℕ) (xs ys : List A) (x : A) → length (distinct same xs) < n → is_member same (first_distinct same n (xs ++ x ∷ ys)) x ≡ true
  held-one n xs ys x lt =
      let n' = n - length (distinct same xs) in
      let news = filter (λ y. not (is_member same xs y)) (distinct same (x ∷ ys)) in
      ap (λ (l : List A). is_member same l x) (held-append same n xs (x ∷ ys) (omega arith))
      ∙ is_member-append same (distinct same xs) (take n' news) x
      ∙ ⊎_elim
      (λ came. ap (λ b. b || is_member same (take n' news) x) (is_member-distinct same exact xs x ∙ came))
      (λ new.
      let first : news ≡ x ∷ filter (λ y. not (is_member same xs y)) (filter (λ y. not (same y x)) (distinct same ys)) = filter-yes (λ y. not (is_member same xs y)) x (filter (λ y. not (same y x)) (distinct same ys)) (ap not new) in
      ap (λ b. b || is_member same (take n' news) x) (is_member-distinct same exact xs x ∙ new)
      ∙ ap (λ (l : List A). is_member same (take n' l) x) first
      ∙ first_held n' x (filter (λ y. not (is_member same xs y)) (filter (λ y. not (same y x)) (distinct same ys))) (omega (arith, lt)))
      (cases_Bool (is_member same xs x))
    where
      first_held : (k : ℕ) (x : A) (ys : List A) → 0 < k → is_member same (take k (x ∷ ys)) x ≡ true
      first_held zero x ys some = absurd (omega arith)
      first_held (suc k) x ys some = ap (λ b. b || is_member same (take k ys) x) (exact.itself x)

  -- an element that comes is held in the end exactly where it is held or there is room
  pub held-row : (n : ℕ) (xs ys : List A) (x : A) → is_member same (first_distinct same n (xs ++ x ∷ ys)) x ≡ (is_member same (first_distinct same n xs) x || nat_lt (length (first_distinct same n xs)) n)
  held-row n xs ys x = ⊎_elim
      (λ lt.
      let all = held-all same n xs (omega arith) in
      let room : nat_lt (length (first_distinct same n xs)) n ≡ true = lt-ltb (length (first_distinct same n xs)) n (omega (arith, length-take n (distinct same xs))) in
      held-one n xs ys x lt ∙ sym (ap (λ b. is_member same (first_distinct same n xs) x || b) room ∙ or-true (is_member same (first_distinct same n xs) x)))
      (λ ge.
      let none : nat_lt (length (first_distinct same n xs)) n ≡ false = le-ltb (length (first_distinct same n xs)) n (omega (arith, length-take n (distinct same xs))) in
      ap (λ (l : List A). is_member same l x) (held-full same n xs (x ∷ ys) ge)
      ∙ sym (ap (λ b. is_member same (first_distinct same n xs) x || b) none ∙ or-false (is_member same (first_distinct same n xs) x)))
      (cases_lt (length (distinct same xs)) n)
    where
      or-true : (b : Bool) → (b || true) ≡ true
      or-true true = refl
      or-true false = refl

      or-false : (b : Bool) → (b || false) ≡ b
      or-false true = refl
      or-false false = refl

-- ---- one element more

-- an element of a front is one of the list
is_member-take : {A : Type 0} (same : A → A → Bool) (n : ℕ) (xs : List A) (q : A) → is_member same (take n xs) q ≡ true → is_member same xs q ≡ true
is_member-take same zero xs q is = absurd (false≢true is)
is_member-take same (suc n) [] q is = absurd (false≢true is)
is_member-take same (suc n) (x ∷ xs) q is = ⊎_elim
    (λ yes. ap (λ b. b || is_member same xs q) yes)
    (λ no. ap (λ b. b || is_member same xs q) no ∙ is_member-take same n xs q (sym (ap (λ b. b || is_member same (take n xs) q) no) ∙ is))
    (cases_Bool (same q x))

module _ {A : Type 0} (same : A → A → Bool) (exact : IsExact same) where
  -- one that is held changes nothing
  pub held-known : (n : ℕ) (xs : List A) (x : A) → is_member same (first_distinct same n xs) x ≡ true → first_distinct same n (xs ++ x ∷ []) ≡ first_distinct same n xs
  held-known n xs x is =
      let came : is_member same xs x ≡ true = sym (is_member-distinct same exact xs x) ∙ is_member-take same n (distinct same xs) x is in
      ap (λ (l : List A). take n l) (distinct-append same xs (x ∷ []) ∙ ap (λ l. distinct same xs ++ l) (filter-no (λ y. not (is_member same xs y)) x [] (ap not came)) ∙ append-nil (distinct same xs))

  -- one that isn't held is, where there is room
  pub held-new : (n : ℕ) (xs : List A) (x : A) → is_member same (first_distinct same n xs) x ≡ false → length (first_distinct same n xs) < n
      → first_distinct same n (xs ++ x ∷ []) ≡ first_distinct same n xs ++ x ∷ []
  held-new n xs x not_held room =
      let few : length (distinct same xs) < n = omega (arith, length-take n (distinct same xs)) in
      let all = held-all same n xs (omega (arith, few)) in
      let new : is_member same xs x ≡ false = sym (is_member-distinct same exact xs x) ∙ sym (ap (λ (l : List A). is_member same l x) all) ∙ not_held in
      ap (λ (l : List A). take n l) (distinct-append same xs (x ∷ []) ∙ ap (λ l. distinct same xs ++ l) (filter-yes (λ y. not (is_member same xs y)) x [] (ap not new)))
      ∙ take_all n (distinct same xs ++ x ∷ []) (omega (arith, length-append (distinct same xs) (x ∷ []), few))
      ∙ ap (λ (l : List A). l ++ x ∷ []) (sym all)

  -- each element is among the distinct ones
  pub distinct-has : (front back : List A) (x : A) → is_member same (distinct same (front ++ x ∷ back)) x ≡ true
  distinct-has front back x =
      is_member-distinct same exact (front ++ x ∷ back) x
      ∙ is_member-append same front (x ∷ back) x
      ∙ ap (λ b. is_member same front x || (b || is_member same back x)) (exact.itself x)
      ∙ either (is_member same front x)
    where
      either : (b : Bool) → (b || true) ≡ true
      either true = refl
      either false = refl
