use Rattle.std.proofs.Common.{◌≡◌, ◌∙◌, ◌+◌, ℕ, zero, suc, Bool, List, [], ◌∷◌, drop, refl, sym, ap, arith, add-one, Some}
use Rattle.std.specs.Prelude.{slice_get}
use Rattle.std.specs.List.{list_any}
use Rattle.std.proofs.lemmas.List.{drop_all}
use Rattle.narrow_query.specs.Names.{is_column}
use Rattle.narrow_query.proofs.narrowing.is_named.Goals as goal

-- what stands at a place comes first of the rest
drop-at : {A : Type 0} (xs : List A) (i : ℕ) (x : A) → slice_get xs i ≡ Some x → drop i xs ≡ x ∷ drop (suc i) xs
drop-at [] zero x e = cc
drop-at [] (suc i) x e = cc
drop-at (y ∷ ys) zero x e = let same : y ≡ x = cc in ap (λ z. z ∷ ys) same
drop-at (y ∷ ys) (suc i) x e = drop-at ys i x e

drop-here : {A : Type 0} (xs : List A) (i : ℕ) (x : A) → slice_get xs i ≡ Some x → drop i xs ≡ x ∷ drop (i + 1) xs
drop-here xs i x e = rw add-one (drop-at xs i x e)

-- whether one of the rest meets a test, by the first
rest-at : {A : Type 0} (test : A → Bool) (whole : Bool) (xs : List A) (i : ℕ) (x : A) → whole ≡ list_any test (drop i xs) → slice_get xs i ≡ Some x → whole ≡ list_any test (x ∷ drop (i + 1) xs)
rest-at test whole xs i x inv e = inv ∙ ap (list_any test) (drop-here xs i x e)

pub loop-place-preserved : goal.loop-place-preserved
loop-place-preserved c =
    let inv = c.loop-place.invariant in
    let same = sym c.is_column.ensures ∙ c.if-is_column.false in
    record {
      count = inv.count;
      rest = rest-at (is_column c.args.name.now) _ c.args.arena.now c.loop-place.place c.get.result.now inv.rest c.get.ensures.some ∙ rw same refl;
    }

pub returns-then-is_column-clause-named : goal.returns-then-is_column-clause-named
returns-then-is_column-clause-named c =
    let inv = c.loop-place.invariant in
    let same = sym c.is_column.ensures ∙ c.if-is_column.true in
    sym (rest-at (is_column c.args.name.now) _ c.args.arena.now c.loop-place.place c.get.result.now inv.rest c.get.ensures.some ∙ rw same refl)

pub returns-clause-named : goal.returns-clause-named
returns-clause-named c =
    let inv = c.loop-place.invariant in
    sym (inv.rest ∙ ap (list_any (is_column c.args.name.now)) (drop_all c.loop-place.place c.args.arena.now (omega (arith, inv.count))))
