use Rattle.std.proofs.Common.{◌≡◌, ◌∙◌, ◌+◌, ◌++◌, [], ◌∷◌, ℕ, zero, suc, add-one, ap, arith, refl, sym}
use Rattle.std.specs.List.{range_with_len}
use Rattle.std.proofs.lemmas.List.FromFn.{length-range_with_len}
use Rattle.narrow_columns.specs.Wanted.{is_wanted}
use Rattle.narrow_columns.proofs.WantedFacts.{chosen-nil}
use Rattle.narrow_columns.proofs.ChosenFacts.{push-kept, push-left}
use Rattle.pipe_source.proofs.wanted_places.wanted_places.Goals as goal
use Rattle.pipe_source.proofs.wanted_places.wanted_places.Goals.{then-is_wanted+in_ok-push, else-is_wanted}

-- one number more
range_push : (a n m : ℕ) → a + n ≡ m → range_with_len a (suc n) ≡ range_with_len a n ++ (m ∷ [])
range_push a zero m e = let z : a ≡ m = omega (arith, e) in rw z refl
range_push a (suc n) m e = ap (λ t. a ∷ t) (range_push (a + 1) n m (omega (arith, e)))

pub loop-i-init : goal.loop-i-init
loop-i-init c = c.in_ok-places.ensures.items ∙ sym (chosen-nil c.args.wanted.now)

pub loop-i-preserved : goal.loop-i-preserved
loop-i-preserved c =
    let i : ℕ = c.loop-i.i in
    let more = range_push 0 i i (omega arith) in
    let size = length-range_with_len 0 i in
    elim c.if-is_wanted.branch [
      | then-is_wanted+in_ok-push w ↦
          let is = ap (is_wanted c.args.wanted.now) size ∙ sym c.is_wanted.ensures ∙ w.if-is_wanted.true in
          rw (w.places-is, add-one, more) (w.in_ok-push.ensures.items ∙ ap (λ t. t ++ (i ∷ [])) c.loop-i.invariant ∙ sym (push-kept c.args.wanted.now (range_with_len 0 i) i is))
      | else-is_wanted w ↦
          let is = ap (is_wanted c.args.wanted.now) size ∙ sym c.is_wanted.ensures ∙ w.if-is_wanted.false in
          rw (w.places-is, add-one, more) (c.loop-i.invariant ∙ sym (push-left c.args.wanted.now (range_with_len 0 i) i is))
    ]
