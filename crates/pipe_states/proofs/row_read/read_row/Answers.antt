use Rattle.std.proofs.Common.{rules, ◌≡◌, ◌^◌, ◌<◌, List, ℕ, true, false, length, refl, subst, IsErrOf}
use Rattle.pipe_aggs.specs.QueryTrees.{query_tree}
use Rattle.pipe_columns.specs.declared.any_value.AnyValue.{AnyValue}
use Rattle.pipe_columns.specs.declared.data_type.DataType.{DataType}
use Rattle.pipe_columns.specs.Key.{code}
use Rattle.pipe_model.specs.Query.{QueryTree}
use Rattle.pipe_running.specs.declared.function.AggregateFunction.{AggregateFunction}
use Rattle.pipe_spill.specs.KeyTypes.{IsCodeOfNone, IsTuple}
use Rattle.pipe_states.specs.Forms.{all_give}
use Rattle.pipe_states.specs.Reading.{BeginsNoResults}
use Rattle.pipe_states.specs.declared.state_error.StateError.TheVariants as fault
use Rattle.pipe_states.proofs.ReadResults.{WereRead}
use Rattle.pipe_states.proofs.ReadRow.{no_counts_row, no_key_row, no_results_row, not_given_row, other_code_row, row_begins, row_in_text}
use Rattle.pipe_states.proofs.row_read.read_row.Goals as goal

pub returns-in_default-clause-refused : goal.returns-in_default-clause-refused
returns-in_default-clause-refused c = λ h.
    no_key_row (query_tree c.args.query.now) c.prototypes-functions.ensures.groupable c.args.bytes.now (c.in_default.ensures.none refl)

pub returns-in_default-take_counts-clause-refused : goal.returns-in_default-take_counts-clause-refused
returns-in_default-take_counts-clause-refused c = λ h.
    let room : length c.args.bytes.now < 2 ^ 64 = search rules in
    no_counts_row (query_tree c.args.query.now) c.prototypes-functions.ensures.groupable c.in-Some.first c.in-Some.code.now c.in-Some.rest.now c.args.bytes.now room c.in-Some.ensures.some
    (c.in_default-take_counts.ensures.none refl)

pub returns-in_err-key-clause-refused : goal.returns-in_err-key-clause-refused
returns-in_err-key-clause-refused c = λ h.
    let room : length c.args.bytes.now < 2 ^ 64 = search rules in
    let again : IsErrOf c.read_key.result fault.NotAState = search rules in
    other_code_row (query_tree c.args.query.now) c.prototypes-functions.ensures.groupable c.in-Some.first c.in-Some.code.now c.in-Some.rest.now c.args.bytes.now room c.in-Some.ensures.some
    (subst (λ (ts : List DataType). IsCodeOfNone ts c.in-Some.code.now) c.key_types.ensures (c.read_key.ensures.refused again))

pub returns-in_err-results-clause-refused : goal.returns-in_err-results-clause-refused
returns-in_err-results-clause-refused c = λ h.
    let room : length c.args.bytes.now < 2 ^ 64 = search rules in
    let again : IsErrOf c.read_results.result fault.NotAState = search rules in
    let n = c.in-Some-take_counts in
    no_results_row (query_tree c.args.query.now) c.prototypes-functions.ensures.groupable c.in-Some.first c.in-Some.code.now c.in-Some.rest.now c.args.bytes.now room c.in-Some.ensures.some
    n.last n.rows n.saved.now n.ensures.chunk n.ensures.row n.ensures.rows n.ensures.some
    (subst (λ (fs : List AggregateFunction). BeginsNoResults fs n.saved.now) c.prototypes-functions.ensures.functions (c.read_results.ensures.refused again))

pub returns-then-not-can_give-clause-refused : goal.returns-then-not-can_give-clause-refused
returns-then-not-can_give-clause-refused c = λ h.
    let q : QueryTree = query_tree c.args.query.now in
    let room : length c.args.bytes.now < 2 ^ 64 = search rules in
    let n = c.in-Some-take_counts in
    let own = c.prototypes-functions.ensures.functions in
    let results : List AnyValue = c.in_ok-results.results in
    let after : List ℕ = c.in_ok-results.after.now in
    let read : WereRead c.prototypes-functions.result.now results after n.saved.now =
    record { are = c.in_ok-results.ensures.results; utf8 = c.in_ok-results.ensures.utf8; front = c.in_ok-results.ensures.code } in
    let no : all_give c.prototypes-functions.result.now n.rows results ≡ false = search rules in
    not_given_row q c.prototypes-functions.ensures.groupable c.in-Some.first c.in-Some.code.now c.in-Some.rest.now c.args.bytes.now room c.in-Some.ensures.some
    n.last n.rows n.saved.now n.ensures.chunk n.ensures.row n.ensures.rows n.ensures.some results after
    (subst (λ (fs : List AggregateFunction). WereRead fs results after n.saved.now) own read)
    (subst (λ (fs : List AggregateFunction). all_give fs n.rows results ≡ false) own no)

pub returns-clause-row : goal.returns-clause-row
returns-clause-row c =
    let q : QueryTree = query_tree c.args.query.now in
    let room : length c.args.bytes.now < 2 ^ 64 = search rules in
    let n = c.in-Some-take_counts in
    let own = c.prototypes-functions.ensures.functions in
    let results : List AnyValue = c.in_ok-results.results in
    let after : List ℕ = c.in_ok-results.after.now in
    let read : WereRead c.prototypes-functions.result.now results after n.saved.now =
    record { are = c.in_ok-results.ensures.results; utf8 = c.in_ok-results.ensures.utf8; front = c.in_ok-results.ensures.code } in
    let yes : all_give c.prototypes-functions.result.now n.rows results ≡ true = search rules in
    row_in_text q c.prototypes-functions.ensures.groupable c.in-Some.first c.in-Some.code.now c.in-Some.rest.now c.args.bytes.now room c.in-Some.ensures.some
    n.last n.rows n.saved.now n.ensures.chunk n.ensures.row n.ensures.rows n.ensures.some results after
    (subst (λ (fs : List AggregateFunction). WereRead fs results after n.saved.now) own read)
    c.in_ok-key.key (subst (λ (ts : List DataType). IsTuple ts c.in_ok-key.key) c.key_types.ensures c.in_ok-key.ensures.tuple)
    (subst (λ (ts : List DataType). code ts c.in_ok-key.key ≡ c.in-Some.code.now) c.key_types.ensures c.in_ok-key.ensures.code)
    (subst (λ (fs : List AggregateFunction). all_give fs n.rows results ≡ true) own yes) c.in-Some.ensures.chunk c.in-Some.ensures.row

pub returns-clause-bytes : goal.returns-clause-bytes
returns-clause-bytes c =
    let q : QueryTree = query_tree c.args.query.now in
    let room : length c.args.bytes.now < 2 ^ 64 = search rules in
    let n = c.in-Some-take_counts in
    let own = c.prototypes-functions.ensures.functions in
    let results : List AnyValue = c.in_ok-results.results in
    let after : List ℕ = c.in_ok-results.after.now in
    let read : WereRead c.prototypes-functions.result.now results after n.saved.now =
    record { are = c.in_ok-results.ensures.results; utf8 = c.in_ok-results.ensures.utf8; front = c.in_ok-results.ensures.code } in
    let yes : all_give c.prototypes-functions.result.now n.rows results ≡ true = search rules in
    row_begins q c.prototypes-functions.ensures.groupable c.in-Some.first c.in-Some.code.now c.in-Some.rest.now c.args.bytes.now room c.in-Some.ensures.some
    n.last n.rows n.saved.now n.ensures.chunk n.ensures.row n.ensures.rows n.ensures.some results after
    (subst (λ (fs : List AggregateFunction). WereRead fs results after n.saved.now) own read)
    c.in_ok-key.key (subst (λ (ts : List DataType). IsTuple ts c.in_ok-key.key) c.key_types.ensures c.in_ok-key.ensures.tuple)
    (subst (λ (ts : List DataType). code ts c.in_ok-key.key ≡ c.in-Some.code.now) c.key_types.ensures c.in_ok-key.ensures.code)
    (subst (λ (fs : List AggregateFunction). all_give fs n.rows results ≡ true) own yes)
