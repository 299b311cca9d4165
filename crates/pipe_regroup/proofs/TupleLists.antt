-- Distinct tuples in the order in which they come, and groups with one more row.
use Rattle.std.proofs.Common.{◌≡◌, ◌∙◌, ℕ, Bool, true, false, cond, List, [], ◌∷◌, ◌⊎◌, inl, inr, map, refl, sym, ap, subst}
use Rattle.std.specs.List.{AllByRecursion, IsDistinct}
use Rattle.std.specs.Cmp.{Equal-is, tied_itself}
use Rattle.std.specs.Ordering.{eq_by_cmp, is_eq}
use Rattle.std.proofs.lemmas.Bool.{false≢true}
use Rattle.pipe_columns.specs.declared.any_value.AnyValue.{AnyValue}
use Rattle.pipe_columns.proofs.ElementFacts.{Has}
use Rattle.pipe_columns.proofs.ValueOrder.{tuples_tie, tuples_total}
use Rattle.pipe_model.specs.Answer.{tuple_cmp}
use Rattle.pipe_states.specs.Regrouped.{kept}
use Rattle.pipe_states.specs.declared.state_row.StateRow.{StateRow}
use Rattle.pipe_regroup.specs.declared.rule.Rule.{Rule}
use Rattle.pipe_regroup.specs.Groups.{joined_row, started, with_row}

abbrev pub Tuple : Type 0
Tuple = List AnyValue

-- whether two tuples are one
abbrev pub same_tuple : Tuple → Tuple → Bool
same_tuple a b = eq_by_cmp tuple_cmp a b

pub same-is : (a b : Tuple) → same_tuple a b ≡ true → a ≡ b
same-is a b e = tuples_tie a b ((Equal-is (tuple_cmp a b)).0 e)

pub same-itself : (a : Tuple) → same_tuple a a ≡ true
same-itself a = ap is_eq (tied_itself tuples_total a)

-- in whatever order they are compared
pub same-turned : (a b : Tuple) → same_tuple a b ≡ false → same_tuple b a ≡ false
same-turned a b e = by (same_tuple b a) refl where
  by : (t : Bool) → same_tuple b a ≡ t → t ≡ false
  by true f = absurd (false≢true (sym e ∙ ap (same_tuple a) (same-is b a f) ∙ same-itself a))
  by false f = refl

-- ---- distinct tuples

-- tuples with one more, which is put behind the others where it is not there
abbrev pub put_tuple : Tuple → List Tuple → List Tuple
put_tuple p [] = p ∷ []
put_tuple p (t ∷ ts) = cond (same_tuple t p) (t ∷ ts) (t ∷ put_tuple p ts)

pub put-there : (p : Tuple) (ts : List Tuple) → Has p (put_tuple p ts)
put-there p [] = inl refl
put-there p (t ∷ ts) = by (same_tuple t p) refl (put-there p ts) where
  by : (b : Bool) → same_tuple t p ≡ b → Has p (put_tuple p ts) → Has p (cond b (t ∷ ts) (t ∷ put_tuple p ts))
  by true e rest = inl (sym (same-is t p e))
  by false e rest = inr rest

pub put-keeps : (k p : Tuple) (ts : List Tuple) → Has k ts → Has k (put_tuple p ts)
put-keeps k p [] m = absurd m
put-keeps k p (t ∷ ts) m = by (same_tuple t p) m (put-keeps k p ts) where
  by : (b : Bool) → Has k (t ∷ ts) → (Has k ts → Has k (put_tuple p ts)) → Has k (cond b (t ∷ ts) (t ∷ put_tuple p ts))
  by true m rest = m
  by false (inl e) rest = inl e
  by false (inr n) rest = inr (rest n)

pub put-from : (k p : Tuple) (ts : List Tuple) → Has k (put_tuple p ts) → Has k ts ⊎ (k ≡ p)
put-from k p [] (inl e) = inr e
put-from k p [] (inr m) = absurd m
put-from k p (t ∷ ts) m = by (same_tuple t p) m (put-from k p ts) where
  next : Has k ts ⊎ (k ≡ p) → Has k (t ∷ ts) ⊎ (k ≡ p)
  next (inl n) = inl (inr n)
  next (inr e) = inr e

  by : (b : Bool) → Has k (cond b (t ∷ ts) (t ∷ put_tuple p ts)) → (Has k (put_tuple p ts) → Has k ts ⊎ (k ≡ p)) → Has k (t ∷ ts) ⊎ (k ≡ p)
  by true m rest = inl m
  by false (inl e) rest = inl (inl e)
  by false (inr n) rest = next (rest n)

-- a tuple differs from tuples and from one more
apart-put : (t p : Tuple) (ts : List Tuple) → same_tuple t p ≡ false → AllByRecursion (λ u. same_tuple t u ≡ false) ts → AllByRecursion (λ u. same_tuple t u ≡ false) (put_tuple p ts)
apart-put t p [] e a = (e, tt)
apart-put t p (u ∷ ts) e a = by (same_tuple u p) (apart-put t p ts e a.1) where
  by : (b : Bool) → AllByRecursion (λ x. same_tuple t x ≡ false) (put_tuple p ts) → AllByRecursion (λ x. same_tuple t x ≡ false) (cond b (u ∷ ts) (u ∷ put_tuple p ts))
  by true rest = a
  by false rest = (a.0, rest)

pub put-distinct : (p : Tuple) (ts : List Tuple) → IsDistinct (eq_by_cmp tuple_cmp) ts → IsDistinct (eq_by_cmp tuple_cmp) (put_tuple p ts)
unfolding IsDistinct
put-distinct p [] d = (tt, tt)
put-distinct p (t ∷ ts) d = by (same_tuple t p) refl (put-distinct p ts d.1) where
  by : (b : Bool) → same_tuple t p ≡ b → IsDistinct (eq_by_cmp tuple_cmp) (put_tuple p ts) → IsDistinct (eq_by_cmp tuple_cmp) (cond b (t ∷ ts) (t ∷ put_tuple p ts))
  by true e rest = d
  by false e rest = (apart-put t p ts e d.0, rest)

-- ---- groups with one more row

-- what differs from a tuple for each of others maps to what it maps to
map-others : (F G : Tuple → StateRow) (p : Tuple) (ts : List Tuple) → ((t : Tuple) → same_tuple t p ≡ false → G t ≡ F t) → AllByRecursion (λ u. same_tuple p u ≡ false) ts → map F ts ≡ map G ts
map-others F G p [] h a = refl
map-others F G p (t ∷ ts) h a = λ i. sym (h t (same-turned p t a.0)) i ∷ map-others F G p ts h a.1 i

module _ (keep : List ℕ) (rules : List Rule) (r : StateRow) (F G : Tuple → StateRow)
    (keys : (t : Tuple) → (F t).key ≡ t) (others : (t : Tuple) → same_tuple t (kept keep r.key) ≡ false → G t ≡ F t) where
  -- groups, one for each tuple, with one more row: that of its tuple, or a new one
  pub with_row-put : (ts : List Tuple) → IsDistinct (eq_by_cmp tuple_cmp) ts
      → ((t : Tuple) → Has t ts → same_tuple t (kept keep r.key) ≡ true → joined_row rules (F t) r ≡ G t)
      → (((t : Tuple) → Has t ts → same_tuple t (kept keep r.key) ≡ false) → started keep r ≡ G (kept keep r.key))
      → with_row keep rules (map F ts) r ≡ map G (put_tuple (kept keep r.key) ts)
  unfolding IsDistinct
  with_row-put [] d joins starts = λ i. starts (λ t m. absurd m) i ∷ []
  with_row-put (t ∷ ts) d joins starts =
      by (same_tuple t (kept keep r.key)) refl (λ e. with_row-put ts d.1 (λ u m. joins u (inr m)) (λ h. starts (new-there h e)))
    where
      test : is_eq (tuple_cmp (F t).key (kept keep r.key)) ≡ same_tuple t (kept keep r.key)
      test = ap (λ (k : Tuple). is_eq (tuple_cmp k (kept keep r.key))) (keys t)

      new-there : ((u : Tuple) → Has u ts → same_tuple u (kept keep r.key) ≡ false) → same_tuple t (kept keep r.key) ≡ false → (u : Tuple) → Has u (t ∷ ts) → same_tuple u (kept keep r.key) ≡ false
      new-there h e u (inl same) = ap (λ (x : Tuple). same_tuple x (kept keep r.key)) same ∙ e
      new-there h e u (inr m) = h u m

      by : (b : Bool) → same_tuple t (kept keep r.key) ≡ b
          → (same_tuple t (kept keep r.key) ≡ false → with_row keep rules (map F ts) r ≡ map G (put_tuple (kept keep r.key) ts))
          → with_row keep rules (F t ∷ map F ts) r ≡ map G (put_tuple (kept keep r.key) (t ∷ ts))
      by true e next =
          ap (λ (b : Bool). cond b (joined_row rules (F t) r ∷ map F ts) (F t ∷ with_row keep rules (map F ts) r)) (test ∙ e)
          ∙ (λ i. joins t (inl refl) e i
          ∷ map-others F G (kept keep r.key) ts others (subst (λ (x : Tuple). AllByRecursion (λ u. same_tuple x u ≡ false) ts) (same-is t (kept keep r.key) e) d.0) i)
          ∙ sym (ap (λ (b : Bool). map G (cond b (t ∷ ts) (t ∷ put_tuple (kept keep r.key) ts))) e)
      by false e next =
          ap (λ (b : Bool). cond b (joined_row rules (F t) r ∷ map F ts) (F t ∷ with_row keep rules (map F ts) r)) (test ∙ e)
          ∙ (λ i. sym (others t e) i ∷ next e i)
          ∙ sym (ap (λ (b : Bool). map G (cond b (t ∷ ts) (t ∷ put_tuple (kept keep r.key) ts))) e)
