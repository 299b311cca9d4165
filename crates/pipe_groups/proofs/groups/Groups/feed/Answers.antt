use Rattle.std.proofs.Common.{◌∙◌, Some, List, get_or, is_some, refl, sym, ap, subst}
use Rattle.pipe_columns.specs.Place.{place_cmp}
use Rattle.pipe_kinds.specs.ManyStates.{states_in}
use Rattle.pipe_running.specs.declared.function.AggregateFunction.{AggregateFunction}
use Rattle.pipe_running.specs.GroupStates.{fed_from, StatesSeen}
use Rattle.pipe_running.specs.Pick.{nearer}
use Rattle.pipe_groups.specs.declared.groups.Groups.TheInside.{Inside}
use Rattle.pipe_groups.specs.Groups.{Seen}
use Rattle.pipe_groups.specs.Layout.{no_entry}
use Rattle.pipe_groups.proofs.LaidFacts.{index-within}
use Rattle.pipe_groups.proofs.PlaceSteps.{counted-once, first-is, held-fits, put-groups, put-laid, put-room, states-are, states-within}
use Rattle.pipe_groups.proofs.StateFacts.{takes-same}
use Rattle.pipe_groups.proofs.groups.Groups.feed.Goals as goal

pub feed_states-requires-clause-within : goal.feed_states-requires-clause-within
feed_states-requires-clause-within c = states-within c.self.inside c.args.self.now c.self.view_is c.self.invariant c.args.index c.requires.within

pub feed_states-requires-clause-few : goal.feed_states-requires-clause-few
feed_states-requires-clause-few c =
    let own = states-are c.self.inside c.args.self.now c.self.view_is c.self.invariant c.args.index c.requires.within in
    subst (λ (ss : List AggregateFunction). StatesSeen 4294967294 ss) (sym own) c.requires.few

pub feed_states-requires-clause-taken : goal.feed_states-requires-clause-taken
feed_states-requires-clause-taken c =
    let own = states-are c.self.inside c.args.self.now c.self.view_is c.self.invariant c.args.index c.requires.within in
    takes-same _ _ _ _ own refl c.requires.taken

pub put_place-requires-clause-within : goal.put_place-requires-clause-within
put_place-requires-clause-within c = index-within c.self.inside c.args.self.now c.self.view_is c.self.invariant c.args.index c.requires.within

pub put_place-requires-clause-few : goal.put_place-requires-clause-few
put_place-requires-clause-few c = held-fits c.self.inside c.args.self.now c.self.view_is c.self.invariant

pub invariant_of-self : goal.invariant_of-self
invariant_of-self c =
    let a : Inside = c.self.inside in
    let i = c.args.index in
    put-laid a c.args.self.now c.self.view_is c.self.invariant i c.requires.within _ (Some (nearer place_cmp c.args.place (get_or a.entries.items i no_entry).first)) (fed_from c.args.place 0 c.args.values (states_in a.states i))
    refl c.put_place.ensures.entries c.feed_states.ensures refl
    (counted-once (is_some (get_or a.entries.items i no_entry).first) a.held c.put_place.new.held c.put_place.ensures.held) (λ e. absurd (cc))

pub returns-clause-groups : goal.returns-clause-groups
returns-clause-groups c =
    let a : Inside = c.self.inside in
    let i = c.args.index in
    let b : Inside = record a { entries = c.put_place.new.entries; states = c.feed_states.new.states; held = c.put_place.new.held } in (
      put-groups a c.args.self.now c.self.view_is c.self.invariant i c.requires.within b (Some (nearer place_cmp c.args.place (get_or a.entries.items i no_entry).first)) (fed_from c.args.place 0 c.args.values (states_in a.states i))
          refl c.put_place.ensures.entries c.feed_states.ensures refl
          ∙ rw (states-are a c.args.self.now c.self.view_is c.self.invariant i c.requires.within, first-is a c.args.self.now c.self.view_is c.self.invariant i c.requires.within) refl,
      ap (λ (s : Seen). s.shape) c.self.view_is,
    )

pub returns-clause-room : goal.returns-clause-room
returns-clause-room c =
    let a : Inside = c.self.inside in
    let i = c.args.index in
    let b : Inside = record a { entries = c.put_place.new.entries; states = c.feed_states.new.states; held = c.put_place.new.held } in
    put-room a c.args.self.now c.self.view_is c.self.invariant i c.requires.within b (Some (nearer place_cmp c.args.place (get_or a.entries.items i no_entry).first)) (fed_from c.args.place 0 c.args.values (states_in a.states i))
    refl c.put_place.ensures.entries c.feed_states.ensures refl c.put_place.ensures.capacity
