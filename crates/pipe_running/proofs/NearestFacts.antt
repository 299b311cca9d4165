-- What is held of two lists together, and with one more element.
use Rattle.std.proofs.Common.{List, [], ◌∷◌, ◌++◌, Option, Some, None, sym, ap, ◌∙◌, subst}
use Rattle.std.specs.declared.cmp.Ordering.{Ordering}
use Rattle.std.specs.Cmp.{IsTotalOrder}
use Rattle.std.proofs.lemmas.List.{append-nil}
use Rattle.pipe_model.specs.Least.{HoldsLeast, IsLeast}
use Rattle.pipe_model.proofs.LeastFacts.{least-both, least-one, second_on_ties, swapped}
use Rattle.pipe_running.specs.Pick.{nearer, nearest}

module _ {X : Type 0} {R : X → X → Ordering} (o : IsTotalOrder R) where
  -- the nearer of what two lists hold is held of both together
  pub holds-joined : (a b : Option X) (xs ys : List X) → HoldsLeast R a xs → HoldsLeast R b ys → HoldsLeast R (nearest R b a) (xs ++ ys)
  holds-joined a None xs ys h k = subst (HoldsLeast R a) (sym (ap (λ (l : List X). xs ++ l) k ∙ append-nil xs)) h
  holds-joined None (Some y) xs ys h k = subst (IsLeast R y) (sym (ap (λ (l : List X). l ++ ys) h)) k
  holds-joined (Some x) (Some y) xs ys h k = least-both o (nearer R y (Some x)) x y xs ys (swapped o (nearer R y (Some x)) y x (second_on_ties o y x)) h k

  -- the nearer of one more element and what is held is held with it
  pub holds-after : (a : Option X) (xs : List X) (x : X) → HoldsLeast R a xs → IsLeast R (nearer R x a) (xs ++ x ∷ [])
  holds-after a xs x h = holds-joined a (Some x) xs (x ∷ []) h (least-one o x)
