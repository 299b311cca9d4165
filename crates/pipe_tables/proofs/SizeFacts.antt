-- How much the groups of a partition hold, along their chain.
use Rattle.std.proofs.Common.{◌≡◌, ◌∙◌, ℕ, suc, Bool, true, false, if◌then◌else◌, List, [], ◌∷◌, ◌++◌, take, map, get_or, Option, Some, None, refl, sym, ap}
use Rattle.std.specs.List.{filter}
use Rattle.pipe_chains.specs.Chains.{last_index, later}

module _ {X : Type 0} (p : X → Bool) where
  -- where no item passes, none is kept
  pub none-kept : (xs : List X) → last_index p xs ≡ None → filter p xs ≡ []
  none-kept [] e = refl
  none-kept (x ∷ xs) e = by (last_index p xs) refl (p x) refl (none-kept xs) where
    by : (o : Option ℕ) → last_index p xs ≡ o → (b : Bool) → p x ≡ b → (last_index p xs ≡ None → filter p xs ≡ []) → (if b then x ∷ filter p xs else filter p xs) ≡ []
    by (Some i) f b g rest = absurd (let q : Some (suc i) ≡ None = sym (ap (λ o. later o (p x)) f) ∙ e in cc)
    by None f true g rest = absurd (let q : Some 0 ≡ None = sym (ap (λ b. if b then Some 0 else None) g) ∙ sym (ap (λ o. later o (p x)) f) ∙ e in cc)
    by None f false g rest = rest f

  -- the last that passes is kept last
  pub last-kept : (xs : List X) (i : ℕ) (d : X) → last_index p xs ≡ Some i → filter p xs ≡ filter p (take i xs) ++ get_or xs i d ∷ []
  last-kept [] i d e = absurd (cc)
  last-kept (x ∷ xs) i d e = by (last_index p xs) refl (p x) refl (last-kept xs) where
    by : (o : Option ℕ) → last_index p xs ≡ o → (b : Bool) → p x ≡ b → ((k : ℕ) (d : X) → last_index p xs ≡ Some k → filter p xs ≡ filter p (take k xs) ++ get_or xs k d ∷ [])
        → filter p (x ∷ xs) ≡ filter p (take i (x ∷ xs)) ++ get_or (x ∷ xs) i d ∷ []
    by (Some k) f true g rest =
        let q : Some (suc k) ≡ Some i = sym (ap (λ o. later o (p x)) f) ∙ e in
        let r : i ≡ suc k = cc in
        rw (r, g) (ap (λ (l : List X). x ∷ l) (rest k d f))
    by (Some k) f false g rest =
        let q : Some (suc k) ≡ Some i = sym (ap (λ o. later o (p x)) f) ∙ e in
        let r : i ≡ suc k = cc in
        rw (r, g) (rest k d f)
    by None f true g rest =
        let q : Some 0 ≡ Some i = sym (ap (λ b. if b then Some 0 else None) g) ∙ sym (ap (λ o. later o (p x)) f) ∙ e in
        let r : i ≡ 0 = cc in
        rw (r, g) (ap (λ (l : List X). x ∷ l) (none-kept xs f))
    by None f false g rest = absurd (let q : None ≡ Some i = sym (ap (λ b. if b then Some 0 else None) g) ∙ sym (ap (λ o. later o (p x)) f) ∙ e in cc)

-- the last of a list of what items have
pub last-map : {X Y : Type 0} (f : X → Y) (p : Y → Bool) (xs : List X) → last_index p (map f xs) ≡ last_index (λ x. p (f x)) xs
last-map f p [] = refl
last-map f p (x ∷ xs) = ap (λ o. later o (p (f x))) (last-map f p xs)
