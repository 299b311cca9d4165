use Rattle.std.proofs.Common.{rules, arith, ◌≡◌, ◌∙◌, ◌≤◌, ◌++◌, ◌∷◌, [], List, length, map, take, All, sym, ap, subst}
use Rattle.std.specs.List.{range_with_len}
use Rattle.std.proofs.lemmas.List.{take_more}
use Rattle.std.proofs.lemmas.Result.{IfOk-weaker}
use Rattle.pipe_aggs.specs.QueryTrees.{query_tree}
use Rattle.pipe_model.specs.Query.{QueryTree}
use Rattle.pipe_states.specs.Regrouped.{regrouped_rows, rows_of_states}
use Rattle.pipe_states.specs.States.{StateSeen}
use Rattle.pipe_states.specs.declared.state_row.StateRow.{StateRow}
use Rattle.pipe_states.proofs.GivenStates.{rows-of}
use Rattle.pipe_regroup.specs.Groups.{count_rows, group_row, IsJoinable}
use Rattle.pipe_regroup.proofs.KeptFacts.{range-below}
use Rattle.pipe_regroup.proofs.QueryGroups.{all-states, AreOfStates, count-of, in-order, of-more, rows-joinable, state-at, total-below, tuples-differ, whole-rows}
use Rattle.pipe_regroup.proofs.merge.merged_rows.Goals as goal

pub add_rows-requires-clause-few : goal.add_rows-requires-clause-few
add_rows-requires-clause-few c =
    let q : QueryTree = query_tree c.args.query.now in
    let s : StateSeen = c.file-item.result in
    let le = total-below c.args.files.now c.loop-file.file-index s c.loop-file-test.true c.file-item.is in
    let count = count-of q (range_with_len 0 (length q.keys)) (take c.loop-file.file-index c.args.files.now) c.loop-file.groups c.loop-file.invariant.states in
    let same : count_rows c.rows.result.now ≡ count_rows s.rows = ap count_rows c.rows.ensures.rows in
    omega (arith, le, count, same, c.requires.few)

pub add_rows-requires-clause-joinable : goal.add_rows-requires-clause-joinable
add_rows-requires-clause-joinable c =
    let q : QueryTree = query_tree c.args.query.now in
    let n = length q.keys in
    let s : StateSeen = c.file-item.result in
    let are = c.loop-file.invariant.states in
    let a = c.loop-file.groups in
    subst (λ (l : List StateRow). All (IsJoinable a.keep.items a.types.items a.rules.items) l) (sym c.rows.ensures.rows)
    (rows-joinable q c.in_ok-groups.ensures.groupable (range_with_len 0 n) (range-below 0 n n (omega arith)) a are.by s.rows
    (state-at q c.args.files.now c.loop-file.file-index s c.loop-file-test.true c.file-item.is c.requires.of_query))

pub loop-file-preserved : goal.loop-file-preserved
loop-file-preserved c =
    let q : QueryTree = query_tree c.args.query.now in
    let s : StateSeen = c.file-item.result in
    let keep = range_with_len 0 (length q.keys) in
    let i = c.loop-file.file-index in
    let states : List StateSeen = c.args.files.now in
    record {
      states = subst (λ (l : List StateSeen). AreOfStates q keep l c.in_ok-groups-2.groups)
          (sym (take_more states i s c.loop-file-test.true ∙ ap (λ (x : StateSeen). take i states ++ x ∷ []) (sym c.file-item.is)))
          (of-more q keep (take i states) s c.loop-file.groups c.in_ok-groups-2.groups c.loop-file.invariant.states (search rules));
    }

pub sorted-requires : goal.sorted-requires
sorted-requires c =
    let q : QueryTree = query_tree c.args.query.now in
    let keep = range_with_len 0 (length q.keys) in
    let past : length c.args.files.now ≤ c.loop-file.file-index = search rules in
    tuples-differ q c.in_ok-groups.ensures.groupable keep c.args.files.now c.requires.of_query c.requires.few c.loop-file.groups (all-states q keep c.args.files.now c.loop-file.file-index c.loop-file.groups past c.loop-file.invariant.states)

pub returns : goal.returns
returns c =
    let q : QueryTree = query_tree c.args.query.now in
    let keep = range_with_len 0 (length q.keys) in
    let states : List StateSeen = c.args.files.now in
    let past : length states ≤ c.loop-file.file-index = search rules in
    let are = all-states q keep states c.loop-file.file-index c.loop-file.groups past c.loop-file.invariant.states in
    let sorted : map group_row c.sorted.result.items ≡ regrouped_rows q (λ key. key) (rows_of_states states) =
    in-order q c.in_ok-groups.ensures.groupable keep states c.requires.of_query c.requires.few c.loop-file.groups are (map group_row c.sorted.result.items) c.sorted.ensures
    ∙ whole-rows q (rows_of_states states) (rows-of q states c.requires.of_query) in
    IfOk-weaker c.state_rows.result (λ rows. rows.items ≡ map group_row c.sorted.result.items) (λ rows. rows.items ≡ regrouped_rows q (λ key. key) (rows_of_states states)) (λ rows p. p ∙ sorted) c.state_rows.ensures
