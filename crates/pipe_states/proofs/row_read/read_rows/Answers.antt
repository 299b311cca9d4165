use Rattle.std.proofs.Common.{rules, ◌≡◌, ◌≢◌, ◌<◌, ◌/◌, ◌^◌, [], List, ℕ, length, subst, IsErrOf}
use Rattle.pipe_aggs.specs.QueryTrees.{query_tree}
use Rattle.pipe_model.specs.Query.{QueryTree}
use Rattle.pipe_states.specs.declared.state_error.StateError.TheVariants as fault
use Rattle.pipe_states.proofs.ReadRows.{AreRowsTo, no_next, row_more, some_left, too_few}
use Rattle.pipe_states.proofs.row_read.read_rows.Goals as goal

pub returns-then-count-rest-clause-refused : goal.returns-then-count-rest-clause-refused
returns-then-count-rest-clause-refused c = λ h.
    let all : List ℕ = c.in-Some.rest.now in
    let room : length all < 2 ^ 64 = search rules in
    let few : length all / 16 < c.in-Some.count = search rules in
    too_few (query_tree c.args.query.now) c.in-Some.count all c.args.bytes.now c.in-Some.ensures.range room c.in-Some.ensures.some few

pub returns-in_err-row-clause-refused : goal.returns-in_err-row-clause-refused
returns-in_err-row-clause-refused c = λ h.
    let all : List ℕ = c.in-Some.rest.now in
    let room : length all < 2 ^ 64 = search rules in
    let again : IsErrOf c.read_row.result fault.NotAState = search rules in
    no_next (query_tree c.args.query.now) c.in-Some.count all c.args.bytes.now c.in-Some.ensures.range room c.in-Some.ensures.some
    c.loop-row.rows.items c.loop-row.rest.now c.loop-row._row c.loop-row.invariant c.loop-row-test.true (c.read_row.ensures.refused again)

pub loop-row-preserved : goal.loop-row-preserved
loop-row-preserved c =
    row_more (query_tree c.args.query.now) c.loop-row.rows.items c.push.new.self.items c.in_ok-row.row c.loop-row.rest.now c.in_ok-row.after.now c.in-Some.rest.now
    c.loop-row._row c.loop-row.invariant c.in_ok-row.ensures.row c.in_ok-row.ensures.bytes c.in_ok-push.ensures.items

pub returns-else-is_empty-clause-refused : goal.returns-else-is_empty-clause-refused
returns-else-is_empty-clause-refused c = λ h.
    let q : QueryTree = query_tree c.args.query.now in
    let all : List ℕ = c.in-Some.rest.now in
    let rest : List ℕ = c.loop-row.rest.now in
    let room : length all < 2 ^ 64 = search rules in
    let at_end : c.loop-row._row ≡ c.in-Some.count = search rules in
    let some : rest ≢ [] = search rules in
    some_left q c.in-Some.count all c.args.bytes.now c.in-Some.ensures.range room c.in-Some.ensures.some
    c.loop-row.rows.items rest (subst (λ n. AreRowsTo q c.loop-row.rows.items rest all n) at_end c.loop-row.invariant) some
