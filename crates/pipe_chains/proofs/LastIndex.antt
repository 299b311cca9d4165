-- The last index that passes.
use Rattle.std.proofs.Common.{◌≡◌, ℕ, ◌<◌, ◌≤◌, zero, suc, Bool, true, false, cond, List, [], ◌∷◌, ◌++◌, length, take, get_or, Option, Some, None, refl, sym, ap, ◌∙◌, arith, subst}
use Rattle.pipe_chains.specs.Chains.{last_index, later}

module _ {X : Type 0} (p : X → Bool) where
  -- one more item
  pub last_index-push : (xs : List X) (x : X)
      → last_index p (xs ++ x ∷ []) ≡ cond (p x) (Some (length xs)) (last_index p xs)
  last_index-push [] x = refl
  last_index-push (y ∷ ys) x = ap (λ o. later o (p y)) (last_index-push ys x) ∙ by (p x) where
    by : (b : Bool) → later (cond b (Some (length ys)) (last_index p ys)) (p y)
        ≡ cond b (Some (suc (length ys))) (later (last_index p ys) (p y))
    by true = refl
    by false = refl

  -- where none passes, there is no last
  pub last-none : (xs : List X) (d : X) → ((j : ℕ) → j < length xs → p (get_or xs j d) ≡ false) → last_index p xs ≡ None
  last-none [] d fails = refl
  last-none (x ∷ xs) d fails = ap (λ o. later o (p x)) (last-none xs d (λ j l. fails (suc j) (omega arith))) ∙ ap (λ b. cond b (Some 0) None) (fails 0 (omega arith))

  -- what fails at the end may be left out
  pub last-front : (xs : List X) (n : ℕ) (d : X) → ((j : ℕ) → n ≤ j → j < length xs → p (get_or xs j d) ≡ false) → last_index p (take n xs) ≡ last_index p xs
  last-front [] zero d fails = refl
  last-front [] (suc n) d fails = refl
  last-front (x ∷ xs) zero d fails = sym (last-none (x ∷ xs) d (λ j l. fails j (omega arith) l))
  last-front (x ∷ xs) (suc n) d fails = ap (λ o. later o (p x)) (last-front xs n d (λ j a l. fails (suc j) (omega arith) (omega arith)))

  -- what the last index says
  pub record IsLast (xs : List X) (i : ℕ) : Type 0 where
    pub within : i < length xs
    pub passes : (d : X) → p (get_or xs i d) ≡ true
    pub after : (j : ℕ) (d : X) → i < j → j < length xs → p (get_or xs j d) ≡ false

  -- where there is no last that passes, each item fails
  pub none-last : (xs : List X) → last_index p xs ≡ None → (j : ℕ) (d : X) → j < length xs → p (get_or xs j d) ≡ false
  none-last [] e j d h = absurd (omega arith)
  none-last (x ∷ xs) e j d h = by (none-last xs) (last_index p xs) refl (p x) refl j h where
    by : (last_index p xs ≡ None → (j : ℕ) (d : X) → j < length xs → p (get_or xs j d) ≡ false) → (o : Option ℕ) → last_index p xs ≡ o → (b : Bool) → p x ≡ b → (j : ℕ) → j < suc (length xs) → p (get_or (x ∷ xs) j d) ≡ false
    by rest (Some i) f b g j h = absurd (let q : Some (suc i) ≡ None = sym (ap (λ o. later o (p x)) f) ∙ e in cc)
    by rest None f true g j h = absurd (let q : Some 0 ≡ None = sym (ap (λ c. cond c (Some 0) None) g) ∙ sym (ap (λ o. later o (p x)) f) ∙ e in cc)
    by rest None f false g zero h = g
    by rest None f false g (suc j) h = rest f j d (omega arith)

  -- the last that passes does, and those behind it fail
  pub some-last : (xs : List X) (i : ℕ) → last_index p xs ≡ Some i → IsLast xs i
  some-last [] i e = absurd (cc)
  some-last (x ∷ xs) i e = by (some-last xs) (last_index p xs) refl (p x) refl where
    further : (k : ℕ) → IsLast xs k → IsLast (x ∷ xs) (suc k)
    further k q = record {
      within = omega (arith, q.within);
      passes = q.passes;
      after = after;
    } where
      after : (j : ℕ) (d : X) → suc k < j → j < suc (length xs) → p (get_or (x ∷ xs) j d) ≡ false
      after zero d a b = absurd (omega arith)
      after (suc j) d a b = q.after j d (omega arith) (omega arith)

    first : last_index p xs ≡ None → p x ≡ true → IsLast (x ∷ xs) 0
    first f g = record {
      within = omega arith;
      passes = λ d. g;
      after = after;
    } where
      after : (j : ℕ) (d : X) → 0 < j → j < suc (length xs) → p (get_or (x ∷ xs) j d) ≡ false
      after zero d a b = absurd (omega arith)
      after (suc j) d a b = none-last xs f j d (omega arith)

    by : ((k : ℕ) → last_index p xs ≡ Some k → IsLast xs k) → (o : Option ℕ) → last_index p xs ≡ o → (b : Bool) → p x ≡ b → IsLast (x ∷ xs) i
    by rest (Some k) f b g =
        let q : Some (suc k) ≡ Some i = sym (ap (λ o. later o (p x)) f) ∙ e in
        let r : suc k ≡ i = cc in
        subst (IsLast (x ∷ xs)) r (further k (rest k f))
    by rest None f true g =
        let q : Some 0 ≡ Some i = sym (ap (λ c. cond c (Some 0) None) g) ∙ sym (ap (λ o. later o (p x)) f) ∙ e in
        let r : 0 ≡ i = cc in
        subst (IsLast (x ∷ xs)) r (first f g)
    by rest None f false g = absurd (let q : None ≡ Some i = sym (ap (λ c. cond c (Some 0) None) g) ∙ sym (ap (λ o. later o (p x)) f) ∙ e in cc)
