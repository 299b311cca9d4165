-- Lists that are built from what is taken of others, one by one.
use Rattle.std.proofs.Common.{◌≡◌, ◌∙◌, ◌+◌, ◌<◌, ◌≤◌, ℕ, zero, suc, Bool, true, false, ◌&&◌, List, [], ◌∷◌, ◌++◌, length, map, refl, sym, ap, append_assoc, arith, length-append, subst, take, drop}
use Rattle.std.specs.List.{All, list_all, slice_index_or}
use Rattle.std.proofs.lemmas.List.{append-nil, map-append}
use Rattle.std.proofs.lemmas.List.Elements.{All-push}
use Rattle.pipe_plan.specs.Rounds.{IsFront}

-- what is left completes what was built, with one more
pub built-more : {A B : Type 0} (f : A → B) (xs now : List B) (x : B) (a : A) (old new : List A) (all : List B)
    → old ≡ a ∷ new → now ≡ xs ++ x ∷ [] → x ≡ f a → xs ++ map f old ≡ all → now ++ map f new ≡ all
built-more {B = B} f xs now x a old new all is more same so_far =
    ap (λ (l : List B). l ++ map f new) more
    ∙ append_assoc xs (x ∷ []) (map f new)
    ∙ ap (λ (y : B). xs ++ y ∷ map f new) same
    ∙ ap (λ l. xs ++ map f l) (sym is)
    ∙ so_far

-- the same where both are seen as something else
pub built-all : {A B C : Type 0} (g : B → C) (f : A → C) (xs now : List B) (x : B) (a : A) (old new : List A) (all : List C)
    → old ≡ a ∷ new → now ≡ xs ++ x ∷ [] → g x ≡ f a → map g xs ++ map f old ≡ all → map g now ++ map f new ≡ all
built-all {B = B} {C = C} g f xs now x a old new all is more same so_far =
    built-more f (map g xs) (map g now) (g x) a old new all is (ap (λ (l : List B). map g l) more ∙ map-append g xs (x ∷ [])) same so_far

-- and whether all have passed
pub passed-more : {A : Type 0} (test : A → Bool) (b : Bool) (a : A) (old new : List A) (all : Bool)
    → old ≡ a ∷ new → (b && list_all test old) ≡ all → ((b && test a) && list_all test new) ≡ all
passed-more test true a old new all is so_far = ap (list_all test) (sym is) ∙ so_far
passed-more test false a old new all is so_far = so_far

-- nothing is left behind the end
pub drop-past : {A : Type 0} (n : ℕ) (xs : List A) → length xs ≤ n → drop n xs ≡ []
drop-past zero [] le = refl
drop-past zero (x ∷ xs) le = absurd (omega (arith, le))
drop-past (suc n) [] le = refl
drop-past (suc n) (x ∷ xs) le = drop-past n xs (omega (arith, le))

-- the next is taken too
pub take-more : {A : Type 0} (n : ℕ) (xs : List A) (d : A) → n < length xs → take (n + 1) xs ≡ take n xs ++ slice_index_or xs n d ∷ []
take-more n [] d lt = absurd (omega (arith, lt))
take-more zero (x ∷ xs) d lt = ap (λ k. take k (x ∷ xs)) {x = 0 + 1} {y = suc 0} (omega arith)
take-more (suc n) (x ∷ xs) d lt = ap (λ k. take k (x ∷ xs)) {x = suc n + 1} {y = suc (n + 1)} (omega arith) ∙ ap (λ l. x ∷ l) (take-more n xs d (omega (arith, lt)))

-- and has what those before have
pub all-take-more : {A : Type 0} (P : A → Type 0) (n : ℕ) (xs : List A) (d : A) → n < length xs → All P (take n xs) → P (slice_index_or xs n d) → All P (take (n + 1) xs)
all-take-more P n xs d lt all own = subst (All P) (sym (take-more n xs d lt)) (All-push P (take n xs) (slice_index_or xs n d) all own)

-- the front of a list that is as long as the list is the list
pub take-past : {A : Type 0} (n : ℕ) (xs : List A) → length xs ≤ n → take n xs ≡ xs
take-past zero [] le = refl
take-past zero (x ∷ xs) le = absurd (omega (arith, le))
take-past (suc n) [] le = refl
take-past (suc n) (x ∷ xs) le = ap (λ l. x ∷ l) (take-past n xs (omega (arith, le)))

-- a front as long as the list is the list
pub front-all : {A : Type 0} (xs ys : List A) → IsFront xs ys → length xs ≡ length ys → xs ≡ ys
front-all {A = A} xs ys f same = by f.rest f.is where
  by : (rest : List A) → ys ≡ xs ++ rest → xs ≡ ys
  by [] is = sym (is ∙ append-nil xs)
  by (x ∷ rest) is = absurd (omega (arith, same, ap (λ (l : List A). length l) is, length-append xs (x ∷ rest)))

-- a list without length has nothing
pub none-left : {A : Type 0} (xs : List A) → length xs ≡ 0 → xs ≡ []
none-left [] e = refl
none-left (x ∷ xs) e = absurd (omega (arith, e))

-- ---- a list of what is there at each place

-- something that has a property
pub record Chosen {B : Type 0} (P : B → Type 0) : Type 0 where
  pub value : B
  pub has : P value

-- a list whose elements have the property of their places
pub record IsListOf {B : Type 0} (P : ℕ → B → Type 0) (n : ℕ) : Type 0 where
  pub items : List B
  pub count : length items ≡ n
  pub each : (p : ℕ) (d : B) → p < n → P p (slice_index_or items p d)

each-of : {B : Type 0} (P : ℕ → B → Type 0) (x : B) (xs : List B) (n : ℕ) → P 0 x → ((p : ℕ) (d : B) → p < n → P (suc p) (slice_index_or xs p d))
    → (p : ℕ) (d : B) → p < suc n → P p (slice_index_or (x ∷ xs) p d)
each-of P x xs n first rest zero d lt = first
each-of P x xs n first rest (suc p) d lt = rest p d (omega (arith, lt))

-- where there is something for each place, there is a list of it
pub list-of : {B : Type 0} (P : ℕ → B → Type 0) (n : ℕ) → ((p : ℕ) → p < n → Chosen (P p)) → IsListOf P n
list-of P zero f = record { items = []; count = refl; each = λ p d lt. absurd (omega (arith, lt)) }
list-of P (suc n) f =
    let first = f 0 (omega arith) in
    let rest = list-of (λ p. P (suc p)) n (λ p lt. f (suc p) (omega (arith, lt))) in record {
      items = first.value ∷ rest.items;
      count = ap suc rest.count;
      each = each-of P first.value rest.items n first.has rest.each;
    }

-- lists with the same elements are one
pub same-lists : {B : Type 0} (xs ys : List B) → length xs ≡ length ys → ((p : ℕ) (x y : B) → p < length ys → slice_index_or xs p x ≡ slice_index_or ys p y) → xs ≡ ys
same-lists [] [] count each = refl
same-lists [] (y ∷ ys) count each = absurd (omega (arith, count))
same-lists (x ∷ xs) [] count each = absurd (omega (arith, count))
same-lists (x ∷ xs) (y ∷ ys) count each = λ i. each 0 x y (omega arith) i ∷ same-lists xs ys (omega (arith, count)) (λ p a b lt. each (suc p) a b (omega (arith, lt))) i
