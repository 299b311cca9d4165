use Rattle.std.proofs.Common.{◌≡◌, ◌∙◌, ℕ, Some, None, get_or, cond, is_some, arith, refl, sym, ap}
use Rattle.pipe_columns.specs.Place.{place_cmp}
use Rattle.pipe_columns.specs.declared.place.Place.{Place}
use Rattle.pipe_kinds.specs.ManyStates.{states_in}
use Rattle.pipe_running.specs.GroupStates.{fresh_states, joined_states}
use Rattle.pipe_running.specs.Pick.{nearer}
use Rattle.pipe_groups.specs.declared.groups.Groups.TheInside.{Inside}
use Rattle.pipe_groups.specs.Groups.{group_of, Seen}
use Rattle.pipe_groups.specs.Layout.{no_entry}
use Rattle.pipe_groups.proofs.LaidFacts.{index-within}
use Rattle.pipe_groups.proofs.JoinSteps.{entry-some, held-some, joinable-same, same-fresh}
use Rattle.pipe_groups.proofs.PlaceSteps.{counted-once, first-is, held-fits, put-groups, put-laid, put-room, states-are, states-within}
use Rattle.pipe_groups.proofs.groups.Groups.join.Goals as goal

pub join-requires-clause-within : goal.join-requires-clause-within
join-requires-clause-within c = states-within c.self.inside c.args.self.now c.self.view_is c.self.invariant c.args.index c.requires.within

pub join-requires-clause-from : goal.join-requires-clause-from
join-requires-clause-from c = states-within c.other.inside c.args.other.now c.other.view_is c.other.invariant c.args.from c.requires.from

pub join-requires-clause-fresh : goal.join-requires-clause-fresh
join-requires-clause-fresh c = same-fresh c.self.inside c.other.inside c.args.self.now c.args.other.now c.self.view_is c.other.view_is c.self.invariant c.other.invariant c.requires.shape

pub join-requires-clause-joinable : goal.join-requires-clause-joinable
join-requires-clause-joinable c =
    joinable-same _ _ _ _ (states-are c.self.inside c.args.self.now c.self.view_is c.self.invariant c.args.index c.requires.within)
    (states-are c.other.inside c.args.other.now c.other.view_is c.other.invariant c.args.from c.requires.from) c.requires.joinable

pub take_place-place-requires-clause-within : goal.take_place-place-requires-clause-within
take_place-place-requires-clause-within c = index-within c.other.inside c.args.other.now c.other.view_is c.other.invariant c.args.from c.requires.from

pub take_place-place-requires-clause-some : goal.take_place-place-requires-clause-some
take_place-place-requires-clause-some c = entry-some c.other.inside c.args.other.now c.other.view_is c.other.invariant c.args.from c.requires.from c.requires.rows

pub take_place-place-requires-clause-counted : goal.take_place-place-requires-clause-counted
take_place-place-requires-clause-counted c = held-some c.other.inside c.args.other.now c.other.view_is c.other.invariant c.args.from c.requires.from c.requires.rows

pub put_place-requires-clause-within : goal.put_place-requires-clause-within
put_place-requires-clause-within c = index-within c.self.inside c.args.self.now c.self.view_is c.self.invariant c.args.index c.requires.within

pub put_place-requires-clause-few : goal.put_place-requires-clause-few
put_place-requires-clause-few c = held-fits c.self.inside c.args.self.now c.self.view_is c.self.invariant

pub invariant_of-self : goal.invariant_of-self
invariant_of-self c =
    let a : Inside = c.self.inside in
    let i = c.args.index in
    let place : Place = c.take_place-place.result in
    put-laid a c.args.self.now c.self.view_is c.self.invariant i c.requires.within _ (Some (nearer place_cmp place (get_or a.entries.items i no_entry).first)) (joined_states (states_in a.states i) (states_in c.other.inside.states c.args.from))
    refl c.put_place.ensures.entries c.join.ensures.states refl
    (counted-once (is_some (get_or a.entries.items i no_entry).first) a.held c.put_place.new.held c.put_place.ensures.held) (λ e. absurd (cc))

pub invariant_of-other : goal.invariant_of-other
invariant_of-other c =
    let o : Inside = c.other.inside in
    let some : ◌≡◌ {A = ℕ} (cond (is_some (get_or o.entries.items c.args.from no_entry).first) 1 0) 1 =
    rw (entry-some o c.args.other.now c.other.view_is c.other.invariant c.args.from c.requires.from c.requires.rows) refl in
    put-laid o c.args.other.now c.other.view_is c.other.invariant c.args.from c.requires.from _ None o.states.fresh
    refl c.take_place-place.ensures.entries c.join.ensures.others refl (omega (arith, some, c.take_place-place.ensures.held)) (λ e. c.other.invariant.like)

pub returns-clause-groups : goal.returns-clause-groups
returns-clause-groups c =
    let a : Inside = c.self.inside in
    let o : Inside = c.other.inside in
    let i = c.args.index in
    let place : Place = c.take_place-place.result in
    let b : Inside = record a { entries = c.put_place.new.entries; states = c.join.new.self; held = c.put_place.new.held } in
    let from : (group_of c.args.other.now.groups c.args.from).first ≡ Some place = sym (first-is o c.args.other.now c.other.view_is c.other.invariant c.args.from c.requires.from) ∙ c.take_place-place.ensures.place in (
      put-groups a c.args.self.now c.self.view_is c.self.invariant i c.requires.within b (Some (nearer place_cmp place (get_or a.entries.items i no_entry).first)) (joined_states (states_in a.states i) (states_in o.states c.args.from))
          refl c.put_place.ensures.entries c.join.ensures.states refl
          ∙ rw (
            from,
            states-are a c.args.self.now c.self.view_is c.self.invariant i c.requires.within,
            states-are o c.args.other.now c.other.view_is c.other.invariant c.args.from c.requires.from,
            first-is a c.args.self.now c.self.view_is c.self.invariant i c.requires.within,
          ) refl,
      ap (λ (s : Seen). s.shape) c.self.view_is,
    )

pub returns-clause-others : goal.returns-clause-others
returns-clause-others c =
    let o : Inside = c.other.inside in
    let b : Inside = record o { entries = c.take_place-place.new.entries; states = c.join.new.other; held = c.take_place-place.new.held } in
    let own : o.states.fresh ≡ fresh_states c.args.other.now.shape.prototypes = c.other.invariant.like ∙ ap (λ (s : Seen). fresh_states s.shape.prototypes) c.other.view_is in (
      put-groups o c.args.other.now c.other.view_is c.other.invariant c.args.from c.requires.from b None o.states.fresh
          refl c.take_place-place.ensures.entries c.join.ensures.others refl
          ∙ rw own refl,
      ap (λ (s : Seen). s.shape) c.other.view_is,
    )

pub returns-clause-room : goal.returns-clause-room
returns-clause-room c =
    let a : Inside = c.self.inside in
    let i = c.args.index in
    let place : Place = c.take_place-place.result in
    let b : Inside = record a { entries = c.put_place.new.entries; states = c.join.new.self; held = c.put_place.new.held } in
    put-room a c.args.self.now c.self.view_is c.self.invariant i c.requires.within b (Some (nearer place_cmp place (get_or a.entries.items i no_entry).first)) (joined_states (states_in a.states i) (states_in c.other.inside.states c.args.from))
    refl c.put_place.ensures.entries c.join.ensures.states refl c.put_place.ensures.capacity

pub returns-clause-others_room : goal.returns-clause-others_room
returns-clause-others_room c =
    let o : Inside = c.other.inside in
    let b : Inside = record o { entries = c.take_place-place.new.entries; states = c.join.new.other; held = c.take_place-place.new.held } in
    put-room o c.args.other.now c.other.view_is c.other.invariant c.args.from c.requires.from b None o.states.fresh
    refl c.take_place-place.ensures.entries c.join.ensures.others refl c.take_place-place.ensures.capacity
