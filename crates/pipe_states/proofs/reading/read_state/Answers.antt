use Rattle.std.proofs.Common.{rules, ◌≡◌, ◌∙◌, ◌^◌, ◌<◌, List, true, false, length, refl, sym, subst}
use Rattle.std.specs.Prelude.{◌↔◌, IsErrOf}
use Rattle.std.proofs.lemmas.Bool.{false≢true}
use Rattle.pipe_aggs.specs.QueryTrees.{query_tree}
use Rattle.pipe_model.specs.Query.{QueryTree}
use Rattle.pipe_states.specs.Fair.{IsFair}
use Rattle.pipe_states.specs.declared.state_error.StateError.TheVariants as fault
use Rattle.pipe_states.specs.declared.state_row.StateRow.{StateRow}
use Rattle.pipe_states.proofs.Texts.{no_range, no_state_rows, of_query, sole_state, text_of_state, unfair}
use Rattle.pipe_states.proofs.reading.read_state.Goals as goal

pub returns-in_default-clause-not_a_state : goal.returns-in_default-clause-not_a_state
returns-in_default-clause-not_a_state c = λ h. no_range (query_tree c.args.query.now) c.args.bytes.now (c.in_default.ensures.none refl)

pub returns-in_err-rows-clause-not_a_state : goal.returns-in_err-rows-clause-not_a_state
returns-in_err-rows-clause-not_a_state c = λ h.
    let q : QueryTree = query_tree c.args.query.now in
    let again : IsErrOf c.read_rows.result fault.NotAState = search rules in
    no_state_rows q c.in_ok-types.ensures.groupable c.in-Some.first c.in-Some.end c.in-Some.frame.now c.args.bytes.now c.in-Some.ensures.first c.in-Some.ensures.end c.in-Some.ensures.some
    (c.read_rows.ensures.refused again)

pub returns-then-not-fair-clause-not_a_state : goal.returns-then-not-fair-clause-not_a_state
returns-then-not-fair-clause-not_a_state c = λ h.
    let q : QueryTree = query_tree c.args.query.now in
    let rows : List StateRow = c.in_ok-rows.rows.items in
    let room : length c.in-Some.frame.now < 2 ^ 64 = search rules in
    let tests : (c.in_ok-fair.fair ≡ true) ↔ IsFair (record { first = c.in-Some.first; end = c.in-Some.end; rows = rows }) =
    subst (λ (rs : List StateRow). (c.in_ok-fair.fair ≡ true) ↔ IsFair (record { first = c.in-Some.first; end = c.in-Some.end; rows = rs })) c.as_slice-shown.ensures.value c.in_ok-fair.ensures in
    let no : c.in_ok-fair.fair ≡ false = search rules in
    unfair q c.in_ok-types.ensures.groupable c.in-Some.first c.in-Some.end c.in-Some.frame.now c.args.bytes.now c.in-Some.ensures.first c.in-Some.ensures.end c.in-Some.ensures.some
    rows c.in_ok-rows.ensures.rows c.in_ok-rows.ensures.frame room (λ f. false≢true (sym no ∙ tests.1 f))

pub invariant_of-result : goal.invariant_of-result
invariant_of-result c =
    let rows : List StateRow = c.in_ok-rows.rows.items in
    let tests : (c.in_ok-fair.fair ≡ true) ↔ IsFair (record { first = c.in-Some.first; end = c.in-Some.end; rows = rows }) =
    subst (λ (rs : List StateRow). (c.in_ok-fair.fair ≡ true) ↔ IsFair (record { first = c.in-Some.first; end = c.in-Some.end; rows = rs })) c.as_slice-shown.ensures.value c.in_ok-fair.ensures in
    let yes : c.in_ok-fair.fair ≡ true = search rules in
    tests.0 yes

pub returns-clause-fair : goal.returns-clause-fair
returns-clause-fair c =
    let q : QueryTree = query_tree c.args.query.now in
    let rows : List StateRow = c.in_ok-rows.rows.items in
    let room : length c.in-Some.frame.now < 2 ^ 64 = search rules in
    let tests : (c.in_ok-fair.fair ≡ true) ↔ IsFair (record { first = c.in-Some.first; end = c.in-Some.end; rows = rows }) =
    subst (λ (rs : List StateRow). (c.in_ok-fair.fair ≡ true) ↔ IsFair (record { first = c.in-Some.first; end = c.in-Some.end; rows = rs })) c.as_slice-shown.ensures.value c.in_ok-fair.ensures in
    let yes : c.in_ok-fair.fair ≡ true = search rules in record {
      fair = tests.0 yes;
      of_query = of_query q c.in_ok-types.ensures.groupable c.in-Some.first c.in-Some.end c.in-Some.frame.now c.args.bytes.now c.in-Some.ensures.first c.in-Some.ensures.end c.in-Some.ensures.some
          rows c.in_ok-rows.ensures.rows c.in_ok-rows.ensures.frame room;
    }

pub returns-clause-text : goal.returns-clause-text
returns-clause-text c =
    let room : length c.in-Some.frame.now < 2 ^ 64 = search rules in
    text_of_state (query_tree c.args.query.now) c.in_ok-types.ensures.groupable c.in-Some.first c.in-Some.end c.in-Some.frame.now c.args.bytes.now c.in-Some.ensures.first c.in-Some.ensures.end c.in-Some.ensures.some
    c.in_ok-rows.rows.items c.in_ok-rows.ensures.rows c.in_ok-rows.ensures.frame room

pub returns-clause-read_back : goal.returns-clause-read_back
returns-clause-read_back c =
    let room : length c.in-Some.frame.now < 2 ^ 64 = search rules in
    sole_state (query_tree c.args.query.now) c.in_ok-types.ensures.groupable c.in-Some.first c.in-Some.end c.in-Some.frame.now c.args.bytes.now c.in-Some.ensures.first c.in-Some.ensures.end c.in-Some.ensures.some
    c.in_ok-rows.rows.items c.in_ok-rows.ensures.rows c.in_ok-rows.ensures.frame room
