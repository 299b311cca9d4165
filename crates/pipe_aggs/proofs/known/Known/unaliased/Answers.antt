use Rattle.std.proofs.Common.{◌≡◌, ◌∙◌, sym}
use Rattle.std.specs.Prelude.{option_copied, Some, None}
use Rattle.pipe_exprs.specs.Trees.{alias_input}
use Rattle.pipe_aggs.proofs.KnownFacts.{unaliased_below, unaliased_here}
use Rattle.pipe_aggs.proofs.known.Known.unaliased.Goals as goal

pub returns-in-Some : goal.returns-in-Some
returns-in-Some c =
    let given : alias_input (option_copied c.find.result) ≡ Some c.in-Some.input = sym c.alias_input.ensures ∙ c.in-Some.is in
    rw (← c.self.view_is) (unaliased_below c.self.inside.arena.now c.args.node c.in-Some.input
    (option_copied c.find.result) c.find.ensures.earlier c.find.ensures.found given)

pub returns-in-None : goal.returns-in-None
returns-in-None c =
    let given : alias_input (option_copied c.find.result) ≡ None = sym c.alias_input.ensures ∙ c.in-None.is in
    rw (← c.self.view_is) (unaliased_here c.self.inside.arena.now c.args.node
    (option_copied c.find.result) c.find.ensures.earlier c.find.ensures.found given)
