-- Calls at the places of a list that is split.
use Rattle.std.proofs.Common.{◌≡◌, ◌∙◌, ◌+◌, ◌<◌, ◌^◌, ℕ, zero, suc, List, [], ◌∷◌, ◌++◌, length, get_or, set, nat_lt, Bool, true, false, ◌-◌, ◌≤◌, refl, sym, ap, arith, subst}
use Rattle.std.proofs.lemmas.Bool.Decides.{nat_tests}
use Rattle.std.proofs.lemmas.List.{get_or_default, get_or-set_other, get_or-set_same, length-append, length-set}
use Rattle.pipe_threads.specs.Places.{AreAccepted, AreChanged}

-- an element behind a front
behind : {T : Type 0} (ps qs : List T) (k : ℕ) (d : T) → get_or (ps ++ qs) (length ps + k) d ≡ get_or qs k d
behind [] qs k d = ap (λ (i : ℕ). get_or qs i d) {x = 0 + k} {y = k} (omega arith)
behind (p ∷ ps) qs k d = ap (λ (i : ℕ). get_or (p ∷ ps ++ qs) i d) {x = suc (length ps) + k} {y = suc (length ps + k)} (omega arith) ∙ behind ps qs k d

-- an element of a front
before : {T : Type 0} (ps qs : List T) (k : ℕ) (d : T) → k < length ps → get_or (ps ++ qs) k d ≡ get_or ps k d
before [] qs k d h = absurd (omega (arith, h))
before (p ∷ ps) qs zero d h = refl
before (p ∷ ps) qs (suc k) d h = before ps qs k d (omega (arith, h))

-- calls at the places of the front
pub accept-first : {T : Type 0} (P : ℕ → T → Type 0) (base : ℕ) (xs ps qs : List T) → xs ≡ ps ++ qs → AreAccepted P base xs → AreAccepted P base ps
accept-first P base xs ps qs e r =
    let all : AreAccepted P base (ps ++ qs) = subst (AreAccepted P base) e r in
    (omega (arith, all.0, length-append ps qs), λ k d h. subst (λ x. P (base + k) x) (before ps qs k d h) (all.1 k d (omega (arith, h, length-append ps qs))))

-- calls at the places behind it
pub accept-others : {T : Type 0} (P : ℕ → T → Type 0) (base size : ℕ) (xs ps qs : List T) → xs ≡ ps ++ qs → length ps ≡ size → AreAccepted P base xs → AreAccepted P (base + size) qs
accept-others P base size xs ps qs e l r =
    let all : AreAccepted P base (ps ++ qs) = subst (AreAccepted P base) e r in (
      omega (arith, all.0, length-append ps qs, l),
      λ k d h.
          subst (λ (i : ℕ). P i (get_or qs k d)) {x = base + (length ps + k)} {y = base + size + k} (omega (arith, l))
          (subst (λ x. P (base + (length ps + k)) x) (behind ps qs k d) (all.1 (length ps + k) d (omega (arith, h, length-append ps qs)))),
    )

-- a place lies in the front or behind it
split : {T : Type 0} (R : ℕ → T → T → Type 0) (base size : ℕ) (ps qs cs ds : List T) (k : ℕ) (d : T) (b : Bool) → nat_lt k (length ps) ≡ b → length ps ≡ size → AreChanged R base ps cs → AreChanged R (base + size) qs ds → k < length (ps ++ qs) → R (base + k) (get_or (ps ++ qs) k d) (get_or (cs ++ ds) k d)
split R base size ps qs cs ds k d true t l f g h =
    let less : k < length ps = grind (arith, nat_tests) in
    rw (before ps qs k d less, before cs ds k d (omega (arith, less, f.0))) (f.1 k d less)
split R base size ps qs cs ds k d false t l f g h =
    let more : length ps ≤ k = grind (arith, nat_tests) in
    let j : ℕ = k - length ps in
    let is : length ps + j ≡ k = omega (arith, more) in
    let too : length cs + j ≡ k = omega (arith, more, f.0) in
    let there : j < length qs = omega (arith, h, length-append ps qs, more) in
    subst (λ (i : ℕ). R (base + k) (get_or (ps ++ qs) i d) (get_or (cs ++ ds) k d)) is
    (subst (λ (i : ℕ). R (base + k) (get_or (ps ++ qs) (length ps + j) d) (get_or (cs ++ ds) i d)) too
    (rw (behind ps qs j d, behind cs ds j d) (subst (λ (i : ℕ). R i (get_or qs j d) (get_or ds j d)) {x = base + size + j} {y = base + k} (omega (arith, more, l)) (g.1 j d there))))

-- what all of them left
pub change-both : {T : Type 0} (R : ℕ → T → T → Type 0) (base size : ℕ) (xs ps qs cs ds : List T) → xs ≡ ps ++ qs → length ps ≡ size → AreChanged R base ps cs → AreChanged R (base + size) qs ds → AreChanged R base xs (cs ++ ds)
change-both R base size xs ps qs cs ds e l f g =
    subst (λ zs. AreChanged R base zs (cs ++ ds)) (sym e)
    (omega (arith, f.0, g.0, length-append ps qs, length-append cs ds), λ k d h. split R base size ps qs cs ds k d (nat_lt k (length ps)) refl l f g h)

-- ---- one after another

-- what was left at a place so far, or is left there now
left-at : {T : Type 0} (R : ℕ → T → T → Type 0) (base k : ℕ) (xs ys : List T) (y : T) (j : ℕ) (d : T) (b : Bool) → nat_lt j k ≡ b → k < length ys → R (base + k) (get_or xs k d) y
    → ((i : ℕ) (f : T) → i < k → R (base + i) (get_or xs i f) (get_or ys i f)) → j < k + 1 → R (base + j) (get_or xs j d) (get_or (set ys k y) j d)
left-at R base k xs ys y j d true t l r done h =
    let less : j < k = grind (arith, nat_tests) in
    subst (λ x. R (base + j) (get_or xs j d) x) (sym (get_or-set_other ys k j y d (λ e. omega (arith, e, less)))) (done j d less)
left-at R base k xs ys y j d false t l r done h =
    let more : k ≤ j = grind (arith, nat_tests) in
    let same : k ≡ j = omega (arith, more, h) in
    subst (λ (i : ℕ). R (base + i) (get_or xs i d) (get_or (set ys k y) i d)) same (subst (λ x. R (base + k) (get_or xs k d) x) (sym (get_or-set_same ys k y d l)) r)

-- one more call
pub one-more : {T : Type 0} (R : ℕ → T → T → Type 0) (base k : ℕ) (xs ys : List T) (e y : T) → k < length ys → length ys ≡ length xs → ((j : ℕ) (d : T) → k ≤ j → get_or ys j d ≡ get_or xs j d)
    → ((j : ℕ) (d : T) → j < k → R (base + j) (get_or xs j d) (get_or ys j d)) → R (base + k) (get_or ys k e) y
    → (length (set ys k y) ≡ length xs) × ((j : ℕ) (d : T) → k + 1 ≤ j → get_or (set ys k y) j d ≡ get_or xs j d) × ((j : ℕ) (d : T) → j < k + 1 → R (base + j) (get_or xs j d) (get_or (set ys k y) j d))
one-more R base k xs ys e y l n rest done r = (
  length-set ys k y ∙ n,
  λ j d h. get_or-set_other ys k j y d (λ f. omega (arith, f, h)) ∙ rest j d (omega (arith, h)),
  λ j d h. left-at R base k xs ys y j d (nat_lt j k) refl l (subst (λ x. R (base + k) x y) (get_or_default ys k e d l ∙ rest k d (omega arith)) r) done h,
)
