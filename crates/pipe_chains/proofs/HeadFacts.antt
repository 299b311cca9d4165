-- Slots, and what is told of them.
use Rattle.std.proofs.Common.{◌≡◌, ℕ, suc, ◌<◌, ◌≤◌, ◌-◌, ◌==◌, ◌^◌, Bool, true, false, cond, List, [], ◌∷◌, ◌++◌, length, get_or, set, refl, sym, ap, ◌∙◌, arith, subst, eqb-true, eq-eqb, true≢false}
use Rattle.std.proofs.lemmas.Nat.{and_le_r}
use Rattle.std.proofs.lemmas.Grind.{get_or_default_zero}
use Rattle.std.proofs.lemmas.List.{get_or-set_other, get_or-set_same, length-set}
use Rattle.std.specs.declared.hash.FoldHasher.{FoldHasher}
use Rattle.pipe_chains.specs.declared.heads.Heads.{Heads}
use Rattle.pipe_chains.specs.declared.link.Link.{Link}
use Rattle.pipe_chains.specs.Heads.{slot_in, slot_of, told_at}
use Rattle.pipe_chains.specs.Layout.{AreLinked, IsChained}
use Rattle.pipe_chains.proofs.LinkFacts.{chained-push}

slot-below : (start : FoldHasher) (count lead : ℕ) → slot_in start count lead ≤ count - 1
unfolding slot_in
slot-below start count lead = and_le_r _ (count - 1)

-- where there are heads, a slot is one of them
pub slot-within : (heads : Heads) (lead : ℕ) → 0 < length heads.told.items → slot_of heads lead < length heads.told.items
slot-within heads lead some = omega (arith, slot-below heads.start (length heads.told.items) lead)

-- what is read there
pub told-is : (heads : Heads) (lead slot told : ℕ) → 0 < length heads.told.items → slot ≡ slot_of heads lead → told ≡ get_or heads.told.items slot told → told ≡ told_at heads slot
told-is heads lead slot told some is read =
    read ∙ get_or_default_zero heads.told.items slot told (omega (arith, slot-within heads lead some, is))

-- as many heads have the same slots
pub slots-same : (old new : Heads) → new.start ≡ old.start → length new.told.items ≡ length old.told.items → slot_of new ≡ slot_of old
slots-same old new start many = λ i lead. slot_in (start i) (many i) lead

-- what is told of a slot once one of them tells another entry
told-set : (told : List ℕ) (slot entry s : ℕ) → slot < length told → get_or (set told slot entry) s 0 ≡ cond (slot == s) entry (get_or told s 0)
told-set told slot entry s within = by (slot == s) refl where
  by : (b : Bool) → (slot == s) ≡ b → get_or (set told slot entry) s 0 ≡ cond b entry (get_or told s 0)
  by true e = subst (λ (n : ℕ). get_or (set told slot entry) n 0 ≡ entry) (eqb-true slot s e) (get_or-set_same told slot entry 0 within)
  by false e = get_or-set_other told slot s entry 0 (λ q. true≢false (sym (eq-eqb slot s (sym q)) ∙ e))

-- one more link, which the head of its lead tells
module _ (old new : Heads) (links : List Link) (link : Link) (linked : AreLinked old links) (start : new.start ≡ old.start) (some : 0 < length old.told.items) where
  pub linked-more : (slot entry : ℕ) → slot ≡ slot_of old link.lead → entry ≡ suc (length links) → entry < 2 ^ 32 → new.told.items ≡ set old.told.items slot entry
      → link.behind ≡ told_at old slot → AreLinked new (links ++ link ∷ [])
  linked-more slot entry is end few items behind =
      let same : slot_of new ≡ slot_of old = slots-same old new start (ap length items ∙ length-set old.told.items slot entry) in
      subst (λ (slots : ℕ → ℕ). IsChained slots (told_at new) (links ++ link ∷ [])) (sym same)
      (chained-push (slot_of old) links link (told_at old) (told_at new) linked link.lead refl (behind ∙ ap (told_at old) is) entry end few
      (λ s. ap (λ (told : List ℕ). get_or told s 0) (items ∙ ap (λ (n : ℕ). set old.told.items n entry) is)
      ∙ told-set old.told.items (slot_of old link.lead) entry s (slot-within old link.lead some)))
