use Rattle.std.proofs.Common.{rules, ◌≡◌, ◌∙◌, Bool, true, false, cond, [], ◌∷◌, sym, ap}
use Rattle.pipe_columns.specs.declared.place.Place.{Place}
use Rattle.pipe_running.specs.States.{given}
use Rattle.pipe_running.specs.declared.function.AggregateFunction.{AggregateFunction}
use Rattle.pipe_regroup.specs.declared.rule.Rule.TheVariants as rule
use Rattle.pipe_regroup.specs.Rules.{is_zero}
use Rattle.pipe_regroup.proofs.ExtremeFacts.{extreme-told, probed}
use Rattle.pipe_regroup.proofs.rule.extreme_rule.Goals as goal

pub returns-then-is_zero : goal.returns-then-is_zero
returns-then-is_zero c =
    let p : Place = record { chunk = 0; row = 0 } in
    let f : AggregateFunction = c.args.function.now in
    let zero : is_zero (given (probed p f)) ≡ true = search rules in
    sym (ap (λ (b : Bool). cond b rule.Least rule.Greatest ∷ []) zero) ∙ extreme-told p f c.requires

pub returns : goal.returns
returns c =
    let p : Place = record { chunk = 0; row = 0 } in
    let f : AggregateFunction = c.args.function.now in
    let zero : is_zero (given (probed p f)) ≡ false = search rules in
    sym (ap (λ (b : Bool). cond b rule.Least rule.Greatest ∷ []) zero) ∙ extreme-told p f c.requires
