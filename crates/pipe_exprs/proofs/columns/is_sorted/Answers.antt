use Rattle.std.proofs.Common.{◌≡◌, ◌∙◌, sym, ap}
use Rattle.std.specs.Prelude.{Some, None, option_copied}
use Rattle.pipe_exprs.specs.Trees.{alias_input}
use Rattle.pipe_exprs.proofs.SortedFacts.{alias-below, alias-flag, flag-is}
use Rattle.pipe_exprs.proofs.columns.is_sorted.Goals as goal

pub loop-input-smaller : goal.loop-input-smaller
loop-input-smaller c =
    let given : alias_input (option_copied c.find.result) ≡ Some c.in-Some.input = sym c.alias_input.ensures ∙ c.in-Some.is in
    alias-below c.args.arena.now c.loop-input.at c.in-Some.input (option_copied c.find.result) c.find.ensures.earlier c.find.ensures.found given

pub loop-input-preserved : goal.loop-input-preserved
loop-input-preserved c =
    let given : alias_input (option_copied c.find.result) ≡ Some c.in-Some.input = sym c.alias_input.ensures ∙ c.in-Some.is in
    alias-flag c.args.arena.now c.args.columns.now c.loop-input.at c.in-Some.input (option_copied c.find.result) c.find.ensures.earlier c.find.ensures.found given
    ∙ c.loop-input.invariant

pub returns : goal.returns
returns c =
    let none : alias_input (option_copied c.find.result) ≡ None = sym c.alias_input.ensures ∙ c.in_default.is in
    let same : option_copied c.find.result ≡ option_copied c.find-2.result = c.find.ensures.found ∙ sym c.find-2.ensures.found in
    let still : alias_input (option_copied c.find-2.result) ≡ None = ap alias_input (sym same) ∙ none in
    c.own_flag.ensures
    ∙ flag-is c.args.arena.now c.args.columns.now c.loop-input.at (option_copied c.find-2.result) c.find-2.ensures.earlier c.find-2.ensures.found still
    ∙ c.loop-input.invariant
