use Rattle.std.proofs.Common.{rules, ◌≡◌, ◌++◌, List, IsErrOf, subst}
use Rattle.pipe_columns.specs.declared.any_value.AnyValue.{AnyValue}
use Rattle.pipe_columns.specs.declared.data_type.DataType.{DataType}
use Rattle.pipe_columns.specs.Key.{code}
use Rattle.pipe_running.specs.declared.function.AggregateFunction.{AggregateFunction}
use Rattle.pipe_spill.specs.KeyTypes.{IsTuple}
use Rattle.pipe_states.specs.declared.state_error.StateError.TheVariants as fault
use Rattle.pipe_states.proofs.ReadResults.{no_results, results_read}
use Rattle.pipe_states.proofs.results.read_results.Goals as goal

pub returns-in_err-results-clause-refused : goal.returns-in_err-results-clause-refused
returns-in_err-results-clause-refused c = λ h.
    let fs : List AggregateFunction = c.args.functions.now in
    let vs : List AnyValue = c.in_ok-values.values in
    let again : IsErrOf c.results_of.result fault.NotAState = search rules in
    no_results fs vs c.in_ok-values.rest.now c.args.bytes.now (subst (λ (ts : List DataType). IsTuple ts vs) c.requires c.in_ok-values.ensures.tuple)
    (subst (λ (ts : List DataType). code ts vs ++ c.in_ok-values.rest.now ≡ c.args.bytes.now) c.requires c.in_ok-values.ensures.code) (c.results_of.ensures.refused again)

pub returns-clause-results : goal.returns-clause-results
returns-clause-results c =
    let fs : List AggregateFunction = c.args.functions.now in
    let vs : List AnyValue = c.in_ok-values.values in
    (results_read fs vs c.in_ok-values.rest.now c.args.bytes.now (subst (λ (ts : List DataType). IsTuple ts vs) c.requires c.in_ok-values.ensures.tuple)
    (subst (λ (ts : List DataType). code ts vs ++ c.in_ok-values.rest.now ≡ c.args.bytes.now) c.requires c.in_ok-values.ensures.code) c.in_ok-results.results c.in_ok-results.ensures.restored).are

pub returns-clause-utf8 : goal.returns-clause-utf8
returns-clause-utf8 c =
    let fs : List AggregateFunction = c.args.functions.now in
    let vs : List AnyValue = c.in_ok-values.values in
    (results_read fs vs c.in_ok-values.rest.now c.args.bytes.now (subst (λ (ts : List DataType). IsTuple ts vs) c.requires c.in_ok-values.ensures.tuple)
    (subst (λ (ts : List DataType). code ts vs ++ c.in_ok-values.rest.now ≡ c.args.bytes.now) c.requires c.in_ok-values.ensures.code) c.in_ok-results.results c.in_ok-results.ensures.restored).utf8

pub returns-clause-code : goal.returns-clause-code
returns-clause-code c =
    let fs : List AggregateFunction = c.args.functions.now in
    let vs : List AnyValue = c.in_ok-values.values in
    (results_read fs vs c.in_ok-values.rest.now c.args.bytes.now (subst (λ (ts : List DataType). IsTuple ts vs) c.requires c.in_ok-values.ensures.tuple)
    (subst (λ (ts : List DataType). code ts vs ++ c.in_ok-values.rest.now ≡ c.args.bytes.now) c.requires c.in_ok-values.ensures.code) c.in_ok-results.results c.in_ok-results.ensures.restored).front
