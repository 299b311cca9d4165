use Rattle.std.proofs.Common.{◌≡◌, ◌∙◌, ◌+◌, ◌<◌, ◌≤◌, List, [], ◌++◌, length, take, refl, sym, ap, arith, length-append}
use Rattle.std.proofs.lemmas.List.{append-nil, take_all}
use Rattle.pipe_columns.specs.declared.any_value.AnyValue.{AnyValue}
use Rattle.pipe_kinds.specs.Columns.{no_state}
use Rattle.pipe_kinds.specs.ManyStates.{ManyStates, state_of, states_in}
use Rattle.pipe_running.specs.declared.function.AggregateFunction.{AggregateFunction}
use Rattle.pipe_running.specs.declared.interface.Finalized.{Finalized}
use Rattle.pipe_running.specs.GroupStates.{fresh_states, given_all}
use Rattle.pipe_running.specs.States.{given, output_values}
use Rattle.pipe_groups.specs.Columns.{columns_of_unfinished, with_values, with_values_at}
use Rattle.pipe_groups.proofs.ColumnFacts.{with_values_at-more}
use Rattle.pipe_groups.proofs.GivenFacts.{given-le, given-more}
use Rattle.pipe_groups.proofs.ManyFacts.{changed-count, changed-end, changed-next, changed-one, fresh-next}
use Rattle.pipe_groups.proofs.given.give_group.Goals as goal

pub finalize-requires-clause-within : goal.finalize-requires-clause-within
finalize-requires-clause-within c = omega (arith, c.requires.within, changed-count _ _ _ _ c.loop-j.invariant.changed)

pub finalize-requires-clause-there : goal.finalize-requires-clause-there
finalize-requires-clause-there c = omega (arith, c.loop-j-test.true, c.width-j-end.ensures.width, ap (λ (m : ManyStates). length m.fresh) c.loop-j.invariant.changed.others)

pub give_at-at-requires-clause-within : goal.give_at-at-requires-clause-within
give_at-at-requires-clause-within c =
    let inv = c.loop-j.invariant in
    let j = c.loop-j.j in
    let own : List AggregateFunction = states_in c.args.states.now c.args.index in
    let here : j < length own = omega (arith, c.loop-j-test.true, c.width-j-end.ensures.width, c.width-j-end.ensures.sized c.args.index c.requires.within) in
    let gives : c.finalize.result ≡ given (state_of c.args.states.now c.args.index j) = c.finalize.ensures.given ∙ ap given (changed-one _ _ _ _ inv.changed) in
    let more : given_all (take (j + 1) own) ≡ given_all (take j own) ++ output_values (given (state_of c.args.states.now c.args.index j)) = given-more own j no_state here in
    omega (arith, c.requires.fits, given-le own (j + 1), ap length more, length-append (given_all (take j own)) (output_values (given (state_of c.args.states.now c.args.index j))), ap (λ (f : Finalized). length (output_values f)) gives, inv.at, c.loop-j.auto.columns)

pub give_at-at-requires-clause-room : goal.give_at-at-requires-clause-room
give_at-at-requires-clause-room c = c.loop-j.invariant.room 0 c.requires.room

pub loop-j-preserved : goal.loop-j-preserved
loop-j-preserved c =
    let inv = c.loop-j.invariant in
    let j = c.loop-j.j in
    let own : List AggregateFunction = states_in c.args.states.now c.args.index in
    let here : j < length own = omega (arith, c.loop-j-test.true, c.width-j-end.ensures.width, c.width-j-end.ensures.sized c.args.index c.requires.within) in
    let gives : c.finalize.result ≡ given (state_of c.args.states.now c.args.index j) = c.finalize.ensures.given ∙ ap given (changed-one _ _ _ _ inv.changed) in
    let more : given_all (take (j + 1) own) ≡ given_all (take j own) ++ output_values c.finalize.result = given-more own j no_state here ∙ ap (λ (f : Finalized). given_all (take j own) ++ output_values f) (sym gives) in
    record {
      at = omega (arith, c.give_at-at.ensures.next, inv.at, ap length more, length-append (given_all (take j own)) (output_values c.finalize.result));
      columns = c.give_at-at.ensures.columns ∙ ap (with_values_at c.loop-j.at (output_values c.finalize.result)) inv.columns
          ∙ with_values_at-more 0 (given_all (take j own)) (output_values c.finalize.result) (columns_of_unfinished c.args.columns.now) c.loop-j.at (omega (arith, inv.at))
          ∙ ap (λ (vs : List AnyValue). with_values_at 0 vs (columns_of_unfinished c.args.columns.now)) (sym more);
      room = λ n h. rw c.give_at-at.ensures.next (c.give_at-at.ensures.room n (inv.room n h));
      changed = changed-next _ _ _ _ inv.changed c.finalize.new.self _ c.requires.within c.finalize.ensures.states;
      fresh = fresh-next _ _ _ _ inv.changed c.finalize.new.self c.requires.within here c.finalize.ensures.states inv.fresh;
    }

pub returns-clause-columns : goal.returns-clause-columns
returns-clause-columns c =
    let own : List AggregateFunction = states_in c.args.states.now c.args.index in
    let all : take c.loop-j.j own ≡ own = take_all c.loop-j.j own (omega (arith, c.loop-j-test.false, c.width-j-end.ensures.width, c.width-j-end.ensures.sized c.args.index c.requires.within)) in
    c.loop-j.invariant.columns ∙ ap (λ (ss : List AggregateFunction). with_values (given_all ss) (columns_of_unfinished c.args.columns.now)) all

pub returns-clause-states : goal.returns-clause-states
returns-clause-states c =
    let own : List AggregateFunction = states_in c.args.states.now c.args.index in
    let le : length own ≤ c.loop-j.j = omega (arith, c.loop-j-test.false, c.width-j-end.ensures.width, c.width-j-end.ensures.sized c.args.index c.requires.within) in
    changed-end _ _ _ _ c.loop-j.invariant.changed (λ ss. []) (fresh_states own) refl le
    (append-nil (take c.loop-j.j (states_in c.loop-j.states c.args.index)) ∙ c.loop-j.invariant.fresh ∙ ap (λ (ss : List AggregateFunction). fresh_states ss) (take_all c.loop-j.j own le))
