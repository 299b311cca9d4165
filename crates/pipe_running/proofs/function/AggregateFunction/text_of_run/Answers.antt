use Rattle.std.proofs.Common.{◌≡◌, ◌+◌, ℕ, Option, IfSome, sym, subst, rules}
use Rattle.pipe_columns.specs.declared.any_value.AnyValue.TheVariants as av
use Rattle.pipe_columns.specs.Frame.{value_at}
use Rattle.pipe_running.specs.Lent.{end_of_run, text_of_run}
use Rattle.pipe_running.specs.Runs.{after_run}
use Rattle.pipe_running.specs.States.{after_value}
use Rattle.pipe_running.proofs.EndFacts.{text-alone, text-at}
use Rattle.pipe_running.proofs.function.AggregateFunction.text_of_run.Goals as goal
use Rattle.pipe_running.proofs.function.AggregateFunction.text_of_run.Goals.{in-First, in-Last}

pub returns-clause-alone : goal.returns-clause-alone
returns-clause-alone c =
    let at : c.match-self.index ≡ end_of_run c.args.values.now c.args.self.now = elim c.match-self.branch [
      | in-First w ↦ search rules
      | in-Last w ↦ search rules
    ] in
    let is : c.then_some.result ≡ text_of_run c.args.chunk c.args.first_row c.args.values.now c.args.self.now =
    text-at c.args.chunk c.args.first_row c.args.values.now c.args.self.now c.match-self.index c.in_ok-value.value.now c.then_some.result
    at (c.in_ok-value.ensures.lookup.3.1 av.Null) (search rules) in
    subst (λ (o : Option ℕ). IfSome o (λ i. after_run after_value c.args.chunk c.args.first_row c.args.values.now c.args.self.now
    ≡ after_value (record { chunk = c.args.chunk; row = c.args.first_row + i }) (value_at c.args.values.now i) c.args.self.now)) (sym is)
    (text-alone c.args.chunk c.args.first_row c.args.values.now c.args.self.now)
