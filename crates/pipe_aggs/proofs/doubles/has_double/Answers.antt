use Rattle.std.proofs.Common.{rules, ◌≡◌, ◌∷◌, ◌∙◌, true, false, sym, ap}
use Rattle.std.specs.List.{list_any}
use Rattle.std.specs.Str.{bytes_eq}
use Rattle.pipe_aggs.specs.Faults.{field_names, has_double}
use Rattle.pipe_aggs.proofs.QueryFacts.{doubled_first}
use Rattle.pipe_aggs.proofs.doubles.has_double.Goals as goal

pub returns-then-is_doubled : goal.returns-then-is_doubled
returns-then-is_doubled c =
    let parts : c.loop-first.rest.now ≡ c.in-Some.first.now ∷ c.in-Some.later.now = search rules in
    let hit : list_any (λ f. bytes_eq f.name c.in-Some.first.now.name) c.in-Some.later.now ≡ true =
    sym c.is_doubled.ensures ∙ c.if-is_doubled.true in
    sym (c.loop-first.invariant ∙ ap (λ fs. has_double (field_names fs)) parts
    ∙ rw hit at (doubled_first c.in-Some.first.now c.in-Some.later.now))

pub loop-first-preserved : goal.loop-first-preserved
loop-first-preserved c =
    let parts : c.loop-first.rest.now ≡ c.in-Some.first.now ∷ c.in-Some.later.now = search rules in
    let miss : list_any (λ f. bytes_eq f.name c.in-Some.first.now.name) c.in-Some.later.now ≡ false =
    sym c.is_doubled.ensures ∙ c.if-is_doubled.false in
    c.loop-first.invariant ∙ ap (λ fs. has_double (field_names fs)) parts
    ∙ rw miss at (doubled_first c.in-Some.first.now c.in-Some.later.now)
