use Rattle.std.proofs.Common.{◌≡◌, ◌∙◌, [], Some, List, get_or, is_some, refl, sym, ap, subst}
use Rattle.pipe_columns.specs.Place.{place_cmp}
use Rattle.pipe_columns.specs.declared.place.Place.{Place}
use Rattle.pipe_inputs.specs.ChunkRows.{row_at}
use Rattle.pipe_kinds.specs.ManyStates.{states_in}
use Rattle.pipe_running.specs.declared.function.AggregateFunction.{AggregateFunction}
use Rattle.pipe_running.specs.GroupStates.{fed_from, StatesSeen}
use Rattle.pipe_running.specs.Pick.{nearer}
use Rattle.pipe_groups.specs.declared.groups.Groups.TheInside.{Inside}
use Rattle.pipe_groups.specs.Groups.{Seen}
use Rattle.pipe_groups.specs.Layout.{no_entry}
use Rattle.pipe_groups.specs.Texts.{kept_texts}
use Rattle.pipe_groups.proofs.LaidFacts.{index-within}
use Rattle.pipe_groups.proofs.PlaceSteps.{counted-once, first-is, held-fits, put-groups, put-laid, put-room, states-are, states-within}
use Rattle.pipe_groups.proofs.StateFacts.{takes-same}
use Rattle.pipe_groups.proofs.groups.Groups.feed_lent.Goals as goal

pub lend_row-requires-clause-within : goal.lend_row-requires-clause-within
lend_row-requires-clause-within c = states-within c.self.inside c.args.self.now c.self.view_is c.self.invariant c.args.index c.requires.within

pub lend_row-requires-clause-few : goal.lend_row-requires-clause-few
lend_row-requires-clause-few c =
    let own = states-are c.self.inside c.args.self.now c.self.view_is c.self.invariant c.args.index c.requires.within in
    subst (λ (ss : List AggregateFunction). StatesSeen 4294967294 ss) (sym own) c.requires.few

pub lend_row-requires-clause-taken : goal.lend_row-requires-clause-taken
lend_row-requires-clause-taken c =
    let own = states-are c.self.inside c.args.self.now c.self.view_is c.self.invariant c.args.index c.requires.within in
    takes-same _ _ _ _ own refl c.requires.taken

pub returns-in_err-lend_row-clause-plain : goal.returns-in_err-lend_row-clause-plain
returns-in_err-lend_row-clause-plain c = λ none.
    let own = states-are c.self.inside c.args.self.now c.self.view_is c.self.invariant c.args.index c.requires.within in
    let inputs = (row_at c.args.rows.now c.args.row).inputs in
    let nothing : kept_texts c.place-place.result 0 inputs (states_in c.self.inside.states c.args.index) ≡ [] = rw (c.place-place.ensures, own) none in
    absurd (let bad = c.in_err-lend_row.ensures.plain nothing in cc)

pub put_place-requires-clause-within : goal.put_place-requires-clause-within
put_place-requires-clause-within c = index-within c.self.inside c.args.self.now c.self.view_is c.self.invariant c.args.index c.requires.within

pub put_place-requires-clause-few : goal.put_place-requires-clause-few
put_place-requires-clause-few c = held-fits c.self.inside c.args.self.now c.self.view_is c.self.invariant

pub invariant_of-self-2 : goal.invariant_of-self-2
invariant_of-self-2 c =
    let a : Inside = c.self.inside in
    let i = c.args.index in
    let p : Place = c.place-place.result in
    let inputs = (row_at c.args.rows.now c.args.row).inputs in
    put-laid a c.args.self.now c.self.view_is c.self.invariant i c.requires.within _ (Some (nearer place_cmp p (get_or a.entries.items i no_entry).first)) (fed_from p 0 inputs (states_in a.states i))
    refl c.put_place.ensures.entries c.in_ok-lend_row.ensures.ok refl
    (counted-once (is_some (get_or a.entries.items i no_entry).first) a.held c.put_place.new.held c.put_place.ensures.held) (λ e. absurd (cc))

pub returns-clause-ok : goal.returns-clause-ok
returns-clause-ok c =
    let a : Inside = c.self.inside in
    let i = c.args.index in
    let p : Place = c.place-place.result in
    let inputs = (row_at c.args.rows.now c.args.row).inputs in
    let b : Inside = record a { entries = c.put_place.new.entries; states = c.lend_row.new.states; held = c.put_place.new.held; copies = c.lend_row.new.copies } in (
      put-groups a c.args.self.now c.self.view_is c.self.invariant i c.requires.within b (Some (nearer place_cmp p (get_or a.entries.items i no_entry).first)) (fed_from p 0 inputs (states_in a.states i))
          refl c.put_place.ensures.entries c.in_ok-lend_row.ensures.ok refl
          ∙ rw (c.place-place.ensures, states-are a c.args.self.now c.self.view_is c.self.invariant i c.requires.within, first-is a c.args.self.now c.self.view_is c.self.invariant i c.requires.within) refl,
      ap (λ (s : Seen). s.shape) c.self.view_is,
    )

pub returns-clause-room : goal.returns-clause-room
returns-clause-room c =
    let a : Inside = c.self.inside in
    let i = c.args.index in
    let p : Place = c.place-place.result in
    let inputs = (row_at c.args.rows.now c.args.row).inputs in
    let b : Inside = record a { entries = c.put_place.new.entries; states = c.lend_row.new.states; held = c.put_place.new.held; copies = c.lend_row.new.copies } in
    put-room a c.args.self.now c.self.view_is c.self.invariant i c.requires.within b (Some (nearer place_cmp p (get_or a.entries.items i no_entry).first)) (fed_from p 0 inputs (states_in a.states i))
    refl c.put_place.ensures.entries c.in_ok-lend_row.ensures.ok refl c.put_place.ensures.capacity
