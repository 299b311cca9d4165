-- Why states that are at hand are not regrouped.
use Rattle.std.proofs.Common.{◌≡◌, ◌∙◌, ℕ, zero, suc, ◌+◌, ◌<◌, ◌↔◌, true, false, Result, Err, Some, List, [], ◌∷◌, length, take, get_or, refl, sym, ap, subst, arith}
use Rattle.std.specs.List.{IsDistinct, list_any, slice_get}
use Rattle.std.proofs.lemmas.List.{take_more}
use Rattle.pipe_states.specs.States.{StateSeen}
use Rattle.pipe_states.specs.Together.{do_overlap, IsFirstOverlap, NoneOverlap}
use Rattle.pipe_regroup.specs.declared.regroup_error.RegroupError.{RegroupError}
use Rattle.pipe_regroup.specs.declared.regroup_error.RegroupError.TheVariants as fault
use Rattle.pipe_regroup.specs.Added.{AreTooLarge}
use Rattle.pipe_regroup.proofs.CoverFacts.{distinct-push, first-sole, none-first}

-- what stands at an index
at-index : (states : List StateSeen) (i : ℕ) (d : StateSeen) → i < length states → slice_get states i ≡ Some (get_or states i d)
at-index [] i d lt = absurd (omega (arith, lt))
at-index (s ∷ states) zero d lt = refl
at-index (s ∷ states) (suc i) d lt = at-index states i d (omega (arith, lt))

-- none at first
pub none-at_first : (states : List StateSeen) → NoneOverlap (take 0 states)
unfolding IsDistinct
none-at_first states = tt

module _ (states : List StateSeen) (i : ℕ) (d : StateSeen) (lt : i < length states) (apart : NoneOverlap (take i states)) where
  -- the one at an index is the first that meets an earlier one
  pub first-at : true ≡ list_any (λ s. do_overlap s (get_or states i d)) (take i states) → IsFirstOverlap states i
  first-at met = record { state = get_or states i d; at = at-index states i d lt; before = apart; overlaps = sym met }

  -- or none so far does
  pub none-more : false ≡ list_any (λ s. do_overlap s (get_or states i d)) (take i states) → NoneOverlap (take (i + 1) states)
  none-more met = subst NoneOverlap (sym (take_more states i d lt)) (distinct-push do_overlap (take i states) (get_or states i d) apart (sym met))

-- ---- what is told

module _ (states : List StateSeen) where
  abbrev named : ℕ → RegroupError → ℕ
  named d (fault.Overlap i) = i
  named d fault.TooLarge = d
  named d fault.Memory = d

  -- the first alone is named
  pub first-named : (file i : ℕ) → IsFirstOverlap states file → (fault.Overlap file ≡ fault.Overlap i) ↔ IsFirstOverlap states i
  first-named file i f = (λ e. subst (IsFirstOverlap states) (ap (named file) e) f, λ g. ap fault.Overlap (first-sole states file i f g))

  -- where there is one, it isn't told that rows are too many
  pub first-not_large : (x : RegroupError) (file : ℕ) → (x ≡ fault.TooLarge → ⊥) → IsFirstOverlap states file → (x ≡ fault.TooLarge) ↔ AreTooLarge states
  first-not_large x file not f = (λ e. absurd (not e), λ l. absurd (none-first states file l.apart f))

  -- where there is none, none is named
  pub none-named : (x : RegroupError) (i : ℕ) → (x ≡ fault.Overlap i → ⊥) → NoneOverlap states → (x ≡ fault.Overlap i) ↔ IsFirstOverlap states i
  none-named x i not none = (λ e. absurd (not e), λ f. absurd (none-first states i none f))

-- a fault is told as such
pub told : {X : Type 0} {P : Type 0} (x e : RegroupError) (r : Result X RegroupError) → r ≡ Err x → (x ≡ e) ↔ P → (r ≡ Err e) ↔ P
told x e r is same = (λ h. same.0 (own r is h), λ p. is ∙ ap Err (same.1 p)) where
  own : {Z : Type 0} (s : Result Z RegroupError) → s ≡ Err x → s ≡ Err e → x ≡ e
  own s f g = cc (sym f ∙ g)
