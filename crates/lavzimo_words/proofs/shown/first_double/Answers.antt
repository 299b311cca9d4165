use Rattle.std.proofs.Common.{rules, ◌≡◌, ◌∷◌, ◌∙◌, Bool, true, false, cond, Some, sym, ap}
use Rattle.lavzimo_words.specs.Shown.{first_double, has_name}
use Rattle.lavzimo_words.proofs.shown.first_double.Goals as goal

pub returns-then-has_name : goal.returns-then-has_name
returns-then-has_name c =
    let parts : c.loop-first.rest.now ≡ c.in-Some.first.now ∷ c.in-Some.later.now = search rules in
    let hit : has_name c.in-Some.later.now c.in-Some.first.now.name ≡ true = sym c.has_name.ensures ∙ c.if-has_name.true in
    sym (c.loop-first.invariant ∙ ap first_double parts
    ∙ ap (λ (b : Bool). cond b (Some c.in-Some.first.now.name) (first_double c.in-Some.later.now)) hit)

pub loop-first-preserved : goal.loop-first-preserved
loop-first-preserved c =
    let parts : c.loop-first.rest.now ≡ c.in-Some.first.now ∷ c.in-Some.later.now = search rules in
    let miss : has_name c.in-Some.later.now c.in-Some.first.now.name ≡ false = sym c.has_name.ensures ∙ c.if-has_name.false in
    c.loop-first.invariant ∙ ap first_double parts
    ∙ ap (λ (b : Bool). cond b (Some c.in-Some.first.now.name) (first_double c.in-Some.later.now)) miss
