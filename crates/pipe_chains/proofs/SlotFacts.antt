-- Entries of one lead have one slot: the chain of the slot has them all.
use Rattle.std.proofs.Common.{◌≡◌, ℕ, zero, suc, ◌<◌, ◌≤◌, ◌≢◌, ◌==◌, Bool, true, false, List, length, map, take, get_or, Some, refl, sym, ap, ◌∙◌, arith, eqb-true, eq-eqb, true≢false, cond}
use Rattle.std.proofs.lemmas.List.{get_or-map, get_or-take, length-map, length-take-le, take-take}
use Rattle.std.proofs.Math.Seq.{take-suc}
use Rattle.pipe_chains.specs.Chains.{last_of}
use Rattle.pipe_chains.specs.Layout.{entry_of}
use Rattle.pipe_chains.proofs.LastIndex.{last-front, last_index-push, none-last, some-last}

module _ (slot : ℕ → ℕ) (leads : List ℕ) (lead : ℕ) where
  unlike : (x : ℕ) → x ≢ lead → (x == lead) ≡ false
  unlike x e = by (x == lead) refl where
    by : (b : Bool) → (x == lead) ≡ b → (x == lead) ≡ false
    by true q = absurd (e (eqb-true x lead q))
    by false q = q

  -- what has another slot has another lead
  fails : (x : ℕ) → (slot x == slot lead) ≡ false → (x == lead) ≡ false
  fails x e = unlike x (λ q. true≢false (sym (eq-eqb (slot x) (slot lead) (ap slot q)) ∙ e))

  module _ (below : ℕ) (within : below ≤ length leads) where
    slots-length : length (take below (map slot leads)) ≡ below
    slots-length = length-take-le below (map slot leads) (omega (arith, length-map leads slot))

    slot-at : (j : ℕ) → j < below → get_or (take below (map slot leads)) j 0 ≡ slot (get_or leads j 0)
    slot-at j l = get_or-take below (map slot leads) j 0 l ∙ get_or-map slot leads j 0 0 (omega (arith, within))

    -- the last entry of the slot lies below
    pub told-within : (told : ℕ) → entry_of told ≡ last_of (slot lead) (take below (map slot leads)) → told ≤ below
    told-within zero e = omega arith
    told-within (suc i) e = omega (arith, (some-last _ (take below (map slot leads)) i (sym e)).within, slots-length)

    -- and has the slot
    pub told-slot : (told : ℕ) → entry_of told ≡ last_of (slot lead) (take below (map slot leads)) → (i : ℕ) → told ≡ suc i → slot (get_or leads i 0) ≡ slot lead
    told-slot zero e i q = absurd (omega (arith, q))
    told-slot (suc k) e i q =
        let l = some-last _ (take below (map slot leads)) k (sym e) in
        let at : k ≡ i = omega (arith, q) in
        ap (λ (n : ℕ). slot (get_or leads n 0)) (sym at) ∙ sym (slot-at k (omega (arith, l.within, slots-length)))
        ∙ eqb-true _ _ (l.passes 0)

    -- behind it none has the slot
    slot-behind : (told : ℕ) → entry_of told ≡ last_of (slot lead) (take below (map slot leads)) → (j : ℕ) → told ≤ j → j < below → (slot (get_or leads j 0) == slot lead) ≡ false
    slot-behind zero e j a l =
        ap (λ (s : ℕ). s == slot lead) (sym (slot-at j l)) ∙ none-last _ (take below (map slot leads)) (sym e) j 0 (omega (arith, slots-length))
    slot-behind (suc i) e j a l =
        ap (λ (s : ℕ). s == slot lead) (sym (slot-at j l)) ∙ (some-last _ (take below (map slot leads)) i (sym e)).after j 0 (omega arith) (omega (arith, slots-length))

    -- so the last entry of the lead up to it is the last of the lead
    pub told-last : (told : ℕ) → entry_of told ≡ last_of (slot lead) (take below (map slot leads)) → last_of lead (take told leads) ≡ last_of lead (take below leads)
    told-last told e =
        ap (last_of lead) (sym (take-take told below leads (told-within told e)))
        ∙ last-front (λ x. x == lead) (take below leads) told 0 (λ j a l.
        let lt : j < below = omega (arith, length-take-le below leads within) in
        ap (λ (x : ℕ). x == lead) (get_or-take below leads j 0 lt) ∙ fails (get_or leads j 0) (slot-behind told e j a lt))

  -- an entry at hand has the lead, or those before it tell
  pub last-here : (i : ℕ) → i < length leads → get_or leads i 0 ≡ lead → last_of lead (take (suc i) leads) ≡ Some i
  last-here i l e =
      ap (last_of lead) (take-suc leads i 0 l) ∙ last_index-push (λ x. x == lead) (take i leads) (get_or leads i 0)
      ∙ ap (λ b. cond b (Some (length (take i leads))) (last_of lead (take i leads))) (eq-eqb (get_or leads i 0) lead e)
      ∙ ap Some (length-take-le i leads (omega arith))

  pub last-before : (i : ℕ) → i < length leads → get_or leads i 0 ≢ lead → last_of lead (take (suc i) leads) ≡ last_of lead (take i leads)
  last-before i l e =
      ap (last_of lead) (take-suc leads i 0 l) ∙ last_index-push (λ x. x == lead) (take i leads) (get_or leads i 0)
      ∙ ap (λ b. cond b (Some (length (take i leads))) (last_of lead (take i leads))) (unlike (get_or leads i 0) e)
