-- A walk along a chain: it meets each entry of its lead once, the last first.
use Rattle.std.proofs.Common.{◌≡◌, ◌≢◌, ℕ, suc, ◌<◌, ◌≤◌, ◌==◌, List, length, take, get_or, Option, Some, None, sym, ap, ◌∙◌, arith, subst, eqb-true, eq-eqb, true≢false, ◌⊎◌, inl, inr}
use Rattle.std.proofs.lemmas.List.{take_all, length-take-le, get_or-take}
use Rattle.std.proofs.lemmas.Bool.{cases_lt, cases_eq}
use Rattle.pipe_chains.specs.Chains.{last_of}
use Rattle.pipe_chains.proofs.LastIndex.{IsLast, none-last, some-last}

-- a walk along the chain of a lead: `at` is the last entry of the lead below `below`, and P holds of
-- each entry of the lead from there on
pub record Walking (P : ℕ → Type 0) (lead : ℕ) (leads : List ℕ) (below : ℕ) (at : Option ℕ) : Type 0 where
  pub within : below ≤ length leads
  pub last : at ≡ last_of lead (take below leads)
  pub passed : (j : ℕ) → below ≤ j → j < length leads → get_or leads j 0 ≡ lead → P j

-- the walk begins
pub walking-start : (P : ℕ → Type 0) (lead : ℕ) (leads : List ℕ) (at : Option ℕ) → at ≡ last_of lead leads → Walking P lead leads (length leads) at
walking-start P lead leads at e = record {
  within = omega arith;
  last = e ∙ ap (last_of lead) (sym (take_all (length leads) leads (omega arith)));
  passed = λ j a b q. absurd (omega arith);
}

module _ (P : ℕ → Type 0) (lead : ℕ) (leads : List ℕ) where
  at_hand : (below i : ℕ) → Walking P lead leads below (Some i) → IsLast (λ x. x == lead) (take below leads) i
  at_hand below i w = some-last _ (take below leads) i (sym w.last)

  -- the entry at hand lies further down
  pub walking-below : (below i : ℕ) → Walking P lead leads below (Some i) → i < below
  walking-below below i w = omega (arith, (at_hand below i w).within, length-take-le below leads w.within)

  pub walking-within : (below i : ℕ) → Walking P lead leads below (Some i) → i < length leads
  walking-within below i w = omega (arith, walking-below below i w, w.within)

  -- the entry at hand has the lead
  pub walking-lead : (below i : ℕ) → Walking P lead leads below (Some i) → get_or leads i 0 ≡ lead
  walking-lead below i w =
      let p = (at_hand below i w).passes 0 in
      eqb-true _ _ (ap (λ x. x == lead) (sym (get_or-take below leads i 0 (walking-below below i w))) ∙ p)

  -- the walk goes on to the entry before it; what holds of the entries behind may change meanwhile
  pub walking-next : (Q : ℕ → Type 0) (below i : ℕ) (next : Option ℕ) → Walking P lead leads below (Some i)
      → ((j : ℕ) → i < j → P j → Q j) → Q i → next ≡ last_of (get_or leads i 0) (take i leads) → Walking Q lead leads i next
  walking-next Q below i next w keeps here n =
      let lt = walking-below below i w in
      record {
        within = omega (arith, w.within, lt);
        last = n ∙ ap (λ m. last_of m (take i leads)) (walking-lead below i w);
        passed = λ j a b q. by j a b q (cases_lt j below) (cases_eq j i);
      } where
        by : (j : ℕ) → i ≤ j → j < length leads → get_or leads j 0 ≡ lead → (j < below) ⊎ (below ≤ j) → (j ≡ i) ⊎ (j ≢ i) → Q j
        by j a b q (inr h) c = keeps j (omega (arith, walking-below below i w)) (w.passed j h b q)
        by j a b q (inl h) (inl c) = subst Q (sym c) here
        by j a b q (inl h) (inr c) =
            let r = (at_hand below i w).after j 0 (omega arith) (omega (arith, length-take-le below leads w.within)) in
            absurd (true≢false (sym (eq-eqb (get_or leads j 0) lead q) ∙ ap (λ x. x == lead) (sym (get_or-take below leads j 0 h)) ∙ r))

  -- the walk ends: each entry of the lead was met
  pub walking-end : (below : ℕ) → Walking P lead leads below None → (j : ℕ) → j < length leads → get_or leads j 0 ≡ lead → P j
  walking-end below w j b q = by (cases_lt j below) where
    by : (j < below) ⊎ (below ≤ j) → P j
    by (inr h) = w.passed j h b q
    by (inl h) =
        let r = none-last _ (take below leads) (sym w.last) j 0 (omega (arith, length-take-le below leads w.within)) in
        absurd (true≢false (sym (eq-eqb (get_or leads j 0) lead q) ∙ ap (λ x. x == lead) (sym (get_or-take below leads j 0 h)) ∙ r))

-- how many entries may still come: all up to the one at hand
abbrev pub left_of : Option ℕ → ℕ
left_of None = 0
left_of (Some i) = suc i

-- the entry before one lies below it
pub left-falls : (P : ℕ → Type 0) (lead : ℕ) (leads : List ℕ) (i : ℕ) (at : Option ℕ) → Walking P lead leads i at → left_of at < suc i
left-falls P lead leads i None w = omega arith
left-falls P lead leads i (Some j) w = omega (arith, walking-below P lead leads i j w)

-- a walk that has come to an entry of chains, from wherever
pub record OnChain (P : ℕ → Type 0) (lead : ℕ) (leads : List ℕ) (at : Option ℕ) : Type 0 where
  pub below : ℕ
  pub walk : Walking P lead leads below at
