use Rattle.std.proofs.Common.{rules, ◌≡◌, ◌∷◌, ◌∙◌, true, false, sym, ap}
use Rattle.std.specs.Prelude.{◌||◌, nat_eq}
use Rattle.std.specs.List.{list_any}
use Rattle.rollup_words.specs.Keys.{has_twice}
use Rattle.rollup_words.proofs.distinct.has_twice.Goals as goal

pub returns-then-is_in : goal.returns-then-is_in
returns-then-is_in c =
    let parts : c.loop-first.rest.now ≡ c.in-Some.first.now ∷ c.in-Some.later.now = search rules in
    let hit : list_any (λ m. nat_eq c.in-Some.first.now m) c.in-Some.later.now ≡ true = sym c.is_in.ensures ∙ c.if-is_in.true in
    sym (c.loop-first.invariant ∙ ap has_twice parts ∙ ap (λ b. b || has_twice c.in-Some.later.now) hit)

pub loop-first-preserved : goal.loop-first-preserved
loop-first-preserved c =
    let parts : c.loop-first.rest.now ≡ c.in-Some.first.now ∷ c.in-Some.later.now = search rules in
    let miss : list_any (λ m. nat_eq c.in-Some.first.now m) c.in-Some.later.now ≡ false = sym c.is_in.ensures ∙ c.if-is_in.false in
    c.loop-first.invariant ∙ ap has_twice parts ∙ ap (λ b. b || has_twice c.in-Some.later.now) miss
