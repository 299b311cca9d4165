use Rattle.std.proofs.Common.{rules, ◌≡◌, ◌<◌, ◌-◌, ◌^◌, ◌∙◌, ap, subst, List, length, map}
use Rattle.std.specs.Prelude.{OnOk}
use Rattle.std.proofs.lemmas.List.{length-map}
use Rattle.std.proofs.lemmas.Result.{on_ok_weaker}
use Rattle.pipe_columns.specs.declared.place.Place.{Place}
use Rattle.pipe_columns.specs.Row.{Row}
use Rattle.test_plain.specs.declared.groups.Group.{Group}
use Rattle.test_plain.specs.declared.groups.Spot.TheVariants as spot
use Rattle.test_plain.specs.Running.{fed, group_seen, IsSpot, starts}
use Rattle.pipe_running.specs.GroupStates.{fed_from, StatesHold}
use Rattle.pipe_inputs.specs.ChunkRows.{row_at}
use Rattle.test_plain.proofs.HoldFacts.{hold-seen, hold-takes, table-at}
use Rattle.test_plain.proofs.SpotFacts.{fed_at, fed_seen, new_at}
use Rattle.test_plain.proofs.groups.add_row.Goals as goal

held_here : (c : goal.After-index_mut-group) → StatesHold (2 ^ 32 - 2) c.args.prototypes.now c.index_mut-group.result.now.states.items
held_here c =
    let group : Group = c.index_mut-group.result.now in
    let items : List Group = c.args.table.now.items in
    let row : Row = row_at c.args.rows.now c.args.row in
    let here : IsSpot row.key (map group_seen items) (spot.At c.in-At.i) = search rules in
    let within : c.in-At.i < length items = rw length-map at here.0 in
    rw c.index_mut-group.ensures.value (table-at (2 ^ 32 - 2) c.args.prototypes.now items c.in-At.i group within c.requires.held)

pub feed-requires-clause-few : goal.feed-requires-clause-few
feed-requires-clause-few c = hold-seen (2 ^ 32 - 2) c.args.prototypes.now c.index_mut-group.result.now.states.items (held_here c)

pub feed-requires-clause-taken : goal.feed-requires-clause-taken
feed-requires-clause-taken c =
    let row : Row = row_at c.args.rows.now c.args.row in
    (hold-takes (2 ^ 32 - 2) 0 row.inputs c.args.prototypes.now c.index_mut-group.result.now.states.items (held_here c) c.requires.taken)

pub returns-after-i-guess : goal.returns-after-i-guess
returns-after-i-guess c =
    let group : Group = c.index_mut-group.result.now in
    let after : Group = c.feed.new.self in
    let items : List Group = c.args.table.now.items in
    let row : Row = row_at c.args.rows.now c.args.row in
    let here : IsSpot row.key (map group_seen items) (spot.At c.in-At.i) = search rules in
    let feeds : OnOk c.feed.result (after.states.items ≡ fed_from row.place 0 row.inputs group.states.items) = rw c.place-place.ensures at c.feed.ensures.ok in
    on_ok_weaker c.feed.result (λ p. fed_at (starts c.args.prototypes.now) row items c.in-At.i group after here c.index_mut-group.ensures.value
    (fed_seen row group after (search rules) c.feed.ensures.first p)) feeds

pub returns-in_ok-insert-in-Before : goal.returns-in_ok-insert-in-Before
returns-in_ok-insert-in-Before c =
    let items : List Group = c.args.table.now.items in
    let row : Row = row_at c.args.rows.now c.args.row in
    let there : IsSpot row.key (map group_seen items) (spot.Before c.in-Before.i) = search rules in
    let group : Group = c.in_ok-group-in-Before.group in
    let seen : group_seen group ≡ (row.key, fed (row.place, row.inputs) (starts c.args.prototypes.now)) =
    subst (λ (p : Place). group_seen group ≡ (row.key, fed (p, row.inputs) (starts c.args.prototypes.now))) c.place-place.ensures c.in_ok-group-in-Before.ensures in
    ap (map group_seen) c.in_ok-insert-in-Before.ensures.items ∙ new_at (starts c.args.prototypes.now) row items c.in-Before.i group there seen
