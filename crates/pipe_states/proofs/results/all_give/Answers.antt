use Rattle.std.proofs.Common.{rules, arith, ◌≡◌, ◌∙◌, ◌+◌, [], List, ℕ, true, false, drop, refl, ap, sym, subst}
use Rattle.std.proofs.lemmas.List.{drop_all, take_rest}
use Rattle.pipe_columns.specs.declared.any_value.AnyValue.{AnyValue}
use Rattle.pipe_columns.specs.Frame.{value_at}
use Rattle.pipe_running.specs.declared.function.AggregateFunction.{AggregateFunction}
use Rattle.pipe_states.specs.Forms.{all_give, gives}
use Rattle.pipe_states.proofs.Appending.{left_over}
use Rattle.pipe_states.proofs.Saved.{AreGiven, front_results, given_more, given_none}
use Rattle.pipe_states.proofs.results.all_give.Goals as goal

pub loop-function-init : goal.loop-function-init
loop-function-init c = record { typed = c.requires; is = refl }

pub gives-requires : goal.gives-requires
gives-requires c =
    let fs : List AggregateFunction = c.args.functions.now in
    let f : AggregateFunction = c.function-item.result in
    let i : ℕ = c.loop-function.function-index in
    let left = left_over fs i f c.loop-function-test.true c.function-item.is in
    let inv = subst (λ (l : List AggregateFunction). AreGiven fs c.args.rows c.args.results.now l c.loop-function.rest.now) left c.loop-function.invariant in
    (front_results f (drop (i + 1) fs) c.loop-function.rest.now inv.typed).0

pub returns-then-not-gives : goal.returns-then-not-gives
returns-then-not-gives c =
    let fs : List AggregateFunction = c.args.functions.now in
    let f : AggregateFunction = c.function-item.result in
    let i : ℕ = c.loop-function.function-index in
    let rest : List AnyValue = c.loop-function.rest.now in
    let left = left_over fs i f c.loop-function-test.true c.function-item.is in
    let inv = subst (λ (l : List AggregateFunction). AreGiven fs c.args.rows c.args.results.now l rest) left c.loop-function.invariant in
    let none : gives f c.args.rows (value_at rest 0) (value_at rest 1) ≡ false = search rules in
    given_none fs c.args.rows c.args.results.now f (drop (i + 1) fs) rest inv none

pub loop-function-preserved : goal.loop-function-preserved
loop-function-preserved c =
    let fs : List AggregateFunction = c.args.functions.now in
    let f : AggregateFunction = c.function-item.result in
    let i : ℕ = c.loop-function.function-index in
    let rest : List AnyValue = c.loop-function.rest.now in
    let left = left_over fs i f c.loop-function-test.true c.function-item.is in
    let inv = subst (λ (l : List AggregateFunction). AreGiven fs c.args.rows c.args.results.now l rest) left c.loop-function.invariant in
    let some : gives f c.args.rows (value_at rest 0) (value_at rest 1) ≡ true = search rules in
    subst (λ (l : List AnyValue). AreGiven fs c.args.rows c.args.results.now (drop (i + 1) fs) l) (sym (take_rest rest c.width.result))
    (subst (λ (n : ℕ). AreGiven fs c.args.rows c.args.results.now (drop (i + 1) fs) (drop n rest)) (sym c.width.ensures)
    (given_more fs c.args.rows c.args.results.now f (drop (i + 1) fs) rest inv some))

pub returns : goal.returns
returns c =
    let fs : List AggregateFunction = c.args.functions.now in
    let end : drop c.loop-function.function-index fs ≡ [] = drop_all c.loop-function.function-index fs (omega (arith, c.loop-function-test.false)) in
    sym (ap (λ (l : List AggregateFunction). all_give l c.args.rows c.loop-function.rest.now) end) ∙ c.loop-function.invariant.is
