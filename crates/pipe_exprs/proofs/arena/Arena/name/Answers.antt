use Rattle.std.proofs.Common.{◌≡◌, ◌∙◌, sym, ap}
use Rattle.std.specs.Prelude.{Some, None, option_copied}
use Rattle.pipe_exprs.specs.Nodes.{name_giver}
use Rattle.pipe_exprs.proofs.NameFacts.{giver_before, giver_is, own_name_is}
use Rattle.pipe_exprs.proofs.arena.Arena.name.Goals as goal

pub loop-giver-smaller : goal.loop-giver-smaller
loop-giver-smaller c =
    let given : name_giver (option_copied c.find.result) ≡ Some c.in-Some.giver = sym c.name_giver.ensures ∙ c.in-Some.is in
    giver_before c.args.self.now c.loop-giver.at c.in-Some.giver (option_copied c.find.result) c.find.ensures.earlier c.find.ensures.found given

pub loop-giver-preserved : goal.loop-giver-preserved
loop-giver-preserved c =
    let given : name_giver (option_copied c.find.result) ≡ Some c.in-Some.giver = sym c.name_giver.ensures ∙ c.in-Some.is in
    giver_is c.args.self.now c.loop-giver.at c.in-Some.giver (option_copied c.find.result) c.find.ensures.earlier c.find.ensures.found given
    ∙ c.loop-giver.invariant

pub returns : goal.returns
returns c =
    let none : name_giver (option_copied c.find.result) ≡ None = sym c.name_giver.ensures ∙ c.in_default.is in
    let same : option_copied c.find.result ≡ option_copied c.find-2.result = c.find.ensures.found ∙ sym c.find-2.ensures.found in
    let still : name_giver (option_copied c.find-2.result) ≡ None = ap name_giver (sym same) ∙ none in
    c.own_name.ensures
    ∙ own_name_is c.args.self.now c.loop-giver.at (option_copied c.find-2.result) c.find-2.ensures.earlier c.find-2.ensures.found still
    ∙ c.loop-giver.invariant
