-- A look-up for a key walks along the chain of its lead.
use Rattle.std.proofs.Common.{◌≡◌, ℕ, suc, ◌<◌, ◌||◌, Bool, true, false, List, [], ◌∷◌, length, take, get_or, Option, Some, None, refl, sym, ap, ◌∙◌, arith, subst}
use Rattle.std.proofs.lemmas.List.{get_or-map, length-map}
use Rattle.std.proofs.lemmas.Slice.Eq.{bytes_eq-Decides}
use Rattle.std.specs.Str.{bytes_eq}
use Rattle.pipe_chains.specs.Chains.{last_of}
use Rattle.pipe_chains.proofs.Walks.{left-falls, left_of, OnChain, Walking, walking-end, walking-lead, walking-next, walking-start, walking-within}
use Rattle.pipe_groups.specs.Groups.{Group, group_of, is_covered, group_keys, no_group}
use Rattle.pipe_columns.specs.declared.data_type.DataType.{DataType}
use Rattle.std.specs.declared.hash.RandomState.{RandomState}
use Rattle.pipe_chains.specs.Hash.{secret_hash_of}
use Rattle.pipe_keyed.specs.KeyedLayout.{AreLed, AreMarked, HaveLead, leads_of}

-- a group has another key
abbrev pub IsOther : List Group → List ℕ → ℕ → Type 0
IsOther gs key j = (group_of gs j).key ≡ key → ⊥

-- a key that no group has isn't covered
pub not-covered : (gs : List Group) (key : List ℕ) → ((j : ℕ) → j < length gs → IsOther gs key j) → is_covered key gs ≡ false
not-covered [] key h = refl
not-covered (g ∷ gs) key h = by (bytes_eq key g.key) refl (not-covered gs key (λ j l. h (suc j) (omega arith))) where
  by : (b : Bool) → bytes_eq key g.key ≡ b → is_covered key gs ≡ false → (b || is_covered key gs) ≡ false
  by true e rest = absurd (h 0 (omega arith) (sym ((bytes_eq-Decides key g.key).0 e)))
  by false e rest = rest

module _ (Marks : List DataType → List ℕ → ℕ → Type 0) (types : List DataType) (gs : List Group) (marks : List ℕ) (m : AreMarked Marks types (group_keys gs) marks) where
  -- there is a mark for each group
  pub marks-length : length marks ≡ length gs
  marks-length = m.many ∙ length-map gs (λ (g : Group). g.key)

  -- it is one of the group's key
  pub marked-at : (i : ℕ) → i < length gs → Marks types (group_of gs i).key (get_or marks i 0)
  marked-at i l =
      subst (λ (k : List ℕ). Marks types k (get_or marks i 0)) (get_or-map (λ (g : Group). g.key) gs i no_group [] l)
      (m.each i (omega (arith, l, length-map gs (λ (g : Group). g.key))))

-- what a comparison with the key of a group says
module _ (gs : List Group) (i : ℕ) (key x : List ℕ) (r : Bool) (is : x ≡ (group_of gs i).key) (e : r ≡ bytes_eq x key) where
  pub same-key : r ≡ true → (group_of gs i).key ≡ key
  same-key t = sym is ∙ (bytes_eq-Decides x key).0 (sym e ∙ t)

  pub other-key : r ≡ false → IsOther gs key i
  other-key f q = absurd (let t : r ≡ true = e ∙ (bytes_eq-Decides x key).1 (is ∙ q) in cc)

-- a walk over groups that have leads
module _ (gs : List Group) (leads key : List ℕ) (lead : ℕ) (many : length leads ≡ length gs) where
  pub find-start : (at : Option ℕ) → at ≡ last_of lead leads → OnChain (IsOther gs key) lead leads at
  find-start at e = record { below = length leads; walk = walking-start (IsOther gs key) lead leads at e }

  pub find-within : (i : ℕ) → OnChain (IsOther gs key) lead leads (Some i) → i < length gs
  find-within i on = omega (arith, walking-within (IsOther gs key) lead leads on.below i on.walk, many)

  pub find-led : (i : ℕ) → OnChain (IsOther gs key) lead leads (Some i) → i < length leads
  find-led i on = walking-within (IsOther gs key) lead leads on.below i on.walk

  pub find-lead : (i : ℕ) → OnChain (IsOther gs key) lead leads (Some i) → get_or leads i 0 ≡ lead
  find-lead i on = walking-lead (IsOther gs key) lead leads on.below i on.walk

  find-walk : (i : ℕ) (next : Option ℕ) → OnChain (IsOther gs key) lead leads (Some i) → IsOther gs key i
      → next ≡ last_of (get_or leads i 0) (take i leads) → Walking (IsOther gs key) lead leads i next
  find-walk i next on other n =
      walking-next (IsOther gs key) lead leads (IsOther gs key) on.below i next on.walk (λ j l p. p) other n

  pub find-next : (i : ℕ) (next : Option ℕ) → OnChain (IsOther gs key) lead leads (Some i) → IsOther gs key i
      → next ≡ last_of (get_or leads i 0) (take i leads) → OnChain (IsOther gs key) lead leads next
  find-next i next on other n = record { below = i; walk = find-walk i next on other n }

  pub find-falls : (i : ℕ) (next : Option ℕ) → OnChain (IsOther gs key) lead leads (Some i) → IsOther gs key i
      → next ≡ last_of (get_or leads i 0) (take i leads) → left_of next < suc i
  find-falls i next on other n = left-falls (IsOther gs key) lead leads i next (find-walk i next on other n)

  -- at the end no group has the key, since each of the key has the lead
  pub find-end : HaveLead gs leads key lead → OnChain (IsOther gs key) lead leads None → is_covered key gs ≡ false
  find-end have on = not-covered gs key (λ j l e.
      walking-end (IsOther gs key) lead leads on.below on.walk j (omega (arith, l, many)) (have j l e) e)

-- a group that has not the mark of a key has another key
pub other-mark : (Marks : List DataType → List ℕ → ℕ → Type 0) (types : List DataType) (gs : List Group) (marks key : List ℕ) (mark i m : ℕ)
    → AreMarked Marks types (group_keys gs) marks → ((code : List ℕ) (a b : ℕ) → Marks types code a → Marks types code b → a ≡ b)
    → Marks types key mark → i < length gs → m ≡ get_or marks i 0 → (m ≡ mark → ⊥) → bytes_eq (group_of gs i).key key ≡ false
other-mark Marks types gs marks key mark i m marked once is l at other = by (bytes_eq (group_of gs i).key key) refl where
  same : (group_of gs i).key ≡ key → m ≡ mark
  same e = at ∙ once key (get_or marks i 0) mark (subst (λ (k : List ℕ). Marks types k (get_or marks i 0)) e (marked-at Marks types gs marks marked i l)) is

  by : (b : Bool) → bytes_eq (group_of gs i).key key ≡ b → bytes_eq (group_of gs i).key key ≡ false
  by true e = absurd (other (same ((bytes_eq-Decides (group_of gs i).key key).0 e)))
  by false e = e

module _ (Marks : List DataType → List ℕ → ℕ → Type 0) (CanHide : List DataType → Type 0) (hash_keys : Option RandomState) (types : List DataType)
    (gs : List Group) (marks leads : List ℕ) where
  -- there is a lead for each group
  pub leads-length : (hides : Bool) → AreLed Marks CanHide hash_keys hides types (group_keys gs) marks leads → length leads ≡ length gs
  leads-length true h = ap length h.led ∙ length-map (group_keys gs) (secret_hash_of hash_keys) ∙ length-map gs (λ (g : Group). g.key)
  leads-length false h = ap length h.led ∙ marks-length Marks types gs marks h.marked

  -- where keys hide, each group of a key has its secret hash
  pub hidden-lead : (hides : Bool) → hides ≡ true → AreLed Marks CanHide hash_keys hides types (group_keys gs) marks leads
      → (key : List ℕ) (lead : ℕ) → lead ≡ secret_hash_of hash_keys key → HaveLead gs leads key lead
  hidden-lead false hidden h key lead is = absurd (cc)
  hidden-lead true hidden h key lead is = λ i l e.
      ap (λ (ls : List ℕ). get_or ls i 0) h.led
      ∙ get_or-map (secret_hash_of hash_keys) (group_keys gs) i [] 0 (omega (arith, l, length-map gs (λ (g : Group). g.key)))
      ∙ ap (secret_hash_of hash_keys) (get_or-map (λ (g : Group). g.key) gs i no_group [] l ∙ e) ∙ sym is

  module _ (hides : Bool) (plain : hides ≡ false) (led : AreLed Marks CanHide hash_keys hides types (group_keys gs) marks leads) where
    -- where they don't, leads are marks
    pub plain-leads : leads ≡ marks
    plain-leads = led.led ∙ ap (λ (b : Bool). leads_of b hash_keys (group_keys gs) marks) plain

    -- each group of a key has its mark, which is the one
    pub plain-lead : ((code : List ℕ) (a b : ℕ) → Marks types code a → Marks types code b → a ≡ b) → (key : List ℕ) (mark : ℕ) → Marks types key mark
        → HaveLead gs leads key mark
    plain-lead once key mark is = λ i l e.
        ap (λ (ls : List ℕ). get_or ls i 0) plain-leads
        ∙ once key (get_or marks i 0) mark (subst (λ (k : List ℕ). Marks types k (get_or marks i 0)) e (marked-at Marks types gs marks led.marked i l)) is

    -- the group at hand has the mark
    pub plain-own : (key : List ℕ) (mark i : ℕ) → OnChain (IsOther gs key) mark leads (Some i) → Marks types (group_of gs i).key mark
    plain-own key mark i on =
        let many : length leads ≡ length gs = leads-length hides led in
        subst (Marks types (group_of gs i).key) (sym (ap (λ (ls : List ℕ). get_or ls i 0) plain-leads) ∙ find-lead gs leads key mark many i on)
        (marked-at Marks types gs marks led.marked i (find-within gs leads key mark many i on))
