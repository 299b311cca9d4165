use Rattle.std.proofs.Common.{◌≡◌, ◌∙◌, ◌+◌, ◌-◌, ℕ, ◌<◌, inl, List, [], ◌∷◌, ◌++◌, length, map, take, get_or, refl, sym, ap, subst, arith}
use Rattle.std.proofs.lemmas.List.{length-set, map-append, take_more}
use Rattle.pipe_columns.specs.declared.any_value.AnyValue.{AnyValue}
use Rattle.pipe_kinds.specs.ManyStates.{ManyStates, states_in}
use Rattle.pipe_running.specs.declared.function.AggregateFunction.{AggregateFunction}
use Rattle.pipe_running.specs.GroupStates.{given_all}
use Rattle.pipe_groups.specs.Columns.{columns_of_unfinished, HaveRoom, with_rows, with_values}
use Rattle.pipe_groups.proofs.GivenFacts.{apart-before, each-next, others-next, rows-more}
use Rattle.pipe_groups.proofs.given.give_groups.Goals as goal

pub loop-index-init : goal.loop-index-init
loop-index-init c = record {
  others = λ k apart. refl;
  each = λ k. inl refl;
  columns = refl;
  room = subst (λ (r : ℕ). HaveRoom r c.args.columns.now) (omega arith) c.requires.room;
  count = refl;
  like = refl;
}

pub give_group-requires-clause-within : goal.give_group-requires-clause-within
give_group-requires-clause-within c = omega (arith, c.requires.within c.loop-index.index-index 0 c.loop-index-test.true, c.loop-index.invariant.count)

pub give_group-requires-clause-fits : goal.give_group-requires-clause-fits
give_group-requires-clause-fits c =
    let k = c.loop-index.index-index in
    let here = c.loop-index.invariant.others (get_or c.args.taken.now k 0) (λ m h w. apart-before c.args.taken.now k c.requires.once c.loop-index-test.true m h) in
    ap (λ (s : List AggregateFunction). length (given_all s)) here ∙ c.requires.fits k 0 c.loop-index-test.true ∙ sym c.loop-index.auto.columns

pub loop-index-preserved : goal.loop-index-preserved
loop-index-preserved c =
    let k = c.loop-index.index-index in
    let taken : List ℕ = c.args.taken.now in
    let i : ℕ = get_or taken k 0 in
    let lt : k < length taken = c.loop-index-test.true in
    let inv = c.loop-index.invariant in
    let here : states_in c.loop-index.states i ≡ states_in c.args.states.now i = inv.others i (λ m h w. apart-before taken k c.requires.once lt m h) in
    let within : i < length c.loop-index.states.groups = omega (arith, c.requires.within k 0 lt, inv.count) in
    let row : ℕ → List AnyValue = λ x. given_all (states_in c.args.states.now x) in
    let rows : map row (take k taken) ++ row i ∷ [] ≡ map row (take (k + 1) taken) = sym (ap (map row) (take_more taken k 0 lt) ∙ map-append row (take k taken) (i ∷ [])) in
    record {
      others = λ x apart. others-next taken k lt x c.args.states.now c.loop-index.states c.give_group.new.states _ c.give_group.ensures.states apart inv.others;
      each = λ x. each-next i x c.args.states.now c.loop-index.states c.give_group.new.states within here c.give_group.ensures.states (inv.each x);
      columns = c.give_group.ensures.columns ∙ ap (λ (s : List AggregateFunction). with_values (given_all s) (columns_of_unfinished c.loop-index.columns)) here
          ∙ ap (with_values (row i)) inv.columns ∙ rows-more (map row (take k taken)) (row i) (columns_of_unfinished c.args.columns.now)
          ∙ ap (λ (rs : List (List AnyValue)). with_rows rs (columns_of_unfinished c.args.columns.now)) rows;
      room = c.give_group.ensures.room (length taken - (k + 1)) (subst (λ (r : ℕ). HaveRoom r c.loop-index.columns) (omega (arith, lt)) inv.room);
      count = ap (λ (m : ManyStates). length m.groups) c.give_group.ensures.states ∙ length-set c.loop-index.states.groups i _ ∙ inv.count;
      like = ap (λ (m : ManyStates). m.fresh) c.give_group.ensures.states ∙ inv.like;
    }

pub returns-clause-others : goal.returns-clause-others
returns-clause-others c = λ k apart. c.loop-index.invariant.others k (λ m h w. apart m 0 w)
