use Rattle.std.proofs.Common.{◌≡◌, ◌∙◌, ◌-◌, ◌<◌, ◌^◌, ℕ, set, Some, List, length, get_or, is_some, arith, refl, sym, ap, subst}
use Rattle.std.specs.List.{All}
use Rattle.pipe_columns.specs.Place.{place_cmp}
use Rattle.pipe_columns.specs.declared.place.Place.{Place}
use Rattle.pipe_inputs.specs.ChunkRows.{row_at}
use Rattle.pipe_inputs.specs.RowRuns.{run_inputs}
use Rattle.pipe_kinds.specs.ManyStates.{states_in}
use Rattle.pipe_running.specs.declared.function.AggregateFunction.{AggregateFunction}
use Rattle.pipe_running.specs.GroupStates.{least_with_run, run_from, StatesSeen, TakesFrom}
use Rattle.pipe_running.specs.Pick.{nearer}
use Rattle.pipe_groups.specs.declared.groups.Groups.TheInside.{Inside}
use Rattle.pipe_groups.specs.GroupRuns.{KeepNoneFrom, with_run}
use Rattle.pipe_groups.specs.Groups.{Group, group_of, Seen}
use Rattle.pipe_groups.specs.Layout.{no_entry}
use Rattle.pipe_groups.proofs.LaidFacts.{index-within}
use Rattle.pipe_groups.proofs.PlaceSteps.{counted-once, first-is, held-fits, put-groups, put-laid, put-room, states-are, states-within}
use Rattle.pipe_groups.proofs.RunFacts.{least-some, length-inputs}
use Rattle.pipe_groups.proofs.groups.Groups.feed_run.Goals as goal

pub run_states-requires-clause-within : goal.run_states-requires-clause-within
run_states-requires-clause-within c = states-within c.self.inside c.args.self.now c.self.view_is c.self.invariant c.args.index c.requires.within

pub run_states-requires-clause-few : goal.run_states-requires-clause-few
run_states-requires-clause-few c =
    let own = states-are c.self.inside c.args.self.now c.self.view_is c.self.invariant c.args.index c.requires.within in
    subst (λ (ss : List AggregateFunction). StatesSeen (2 ^ 32 - 1 - c.args.len) ss) (sym own) c.requires.few

pub run_states-requires-clause-taken : goal.run_states-requires-clause-taken
run_states-requires-clause-taken c =
    let own = states-are c.self.inside c.args.self.now c.self.view_is c.self.invariant c.args.index c.requires.within in
    subst (λ (ss : List AggregateFunction). All (λ inputs. TakesFrom 0 ss inputs) (run_inputs c.args.rows.now c.args.row c.args.len)) (sym own) c.requires.taken

pub run_states-requires-clause-plain : goal.run_states-requires-clause-plain
run_states-requires-clause-plain c =
    let own = states-are c.self.inside c.args.self.now c.self.view_is c.self.invariant c.args.index c.requires.within in
    subst (λ (ss : List AggregateFunction). KeepNoneFrom 0 ss (run_inputs c.args.rows.now c.args.row c.args.len)) (sym own) c.requires.plain

pub put_place-requires-clause-within : goal.put_place-requires-clause-within
put_place-requires-clause-within c = index-within c.self.inside c.args.self.now c.self.view_is c.self.invariant c.args.index c.requires.within

pub put_place-requires-clause-few : goal.put_place-requires-clause-few
put_place-requires-clause-few c = held-fits c.self.inside c.args.self.now c.self.view_is c.self.invariant

pub invariant_of-self : goal.invariant_of-self
invariant_of-self c =
    let a : Inside = c.self.inside in
    let i = c.args.index in
    let inputs = run_inputs c.args.rows.now c.args.row c.args.len in
    put-laid a c.args.self.now c.self.view_is c.self.invariant i c.requires.within _ (Some (nearer place_cmp c.place-place.result (get_or a.entries.items i no_entry).first)) (run_from c.chunk-chunk.result c.args.row 0 inputs (states_in a.states i))
    refl c.put_place.ensures.entries c.run_states.ensures refl
    (counted-once (is_some (get_or a.entries.items i no_entry).first) a.held c.put_place.new.held c.put_place.ensures.held) (λ e. absurd (cc))

pub returns-clause-groups : goal.returns-clause-groups
returns-clause-groups c =
    let a : Inside = c.self.inside in
    let i = c.args.index in
    let inputs = run_inputs c.args.rows.now c.args.row c.args.len in
    let ss : List AggregateFunction = states_in a.states i in
    let b : Inside = record a { entries = c.put_place.new.entries; states = c.run_states.new.states; held = c.put_place.new.held } in
    let g : Group = group_of c.args.self.now.groups i in
    let there : c.args.row < length c.args.rows.now = omega (arith, c.requires.some, c.requires.there) in
    let chunk : c.chunk-chunk.result ≡ (row_at c.args.rows.now c.args.row).place.chunk = sym (ap (λ (p : Place). p.chunk) (c.chunk-chunk.ensures c.args.row there)) in
    let place : c.place-place.result ≡ record { chunk = c.chunk-chunk.result; row = c.args.row } = c.place-place.ensures ∙ c.chunk-chunk.ensures c.args.row there in
    let own : ss ≡ g.states = states-are a c.args.self.now c.self.view_is c.self.invariant i c.requires.within in
    let first : Some (nearer place_cmp c.place-place.result (get_or a.entries.items i no_entry).first) ≡ least_with_run c.chunk-chunk.result c.args.row inputs g.first =
    (λ k. Some (nearer place_cmp (place k) (first-is a c.args.self.now c.self.view_is c.self.invariant i c.requires.within k)))
    ∙ sym (least-some c.chunk-chunk.result c.args.row inputs g.first (omega (arith, c.requires.some, length-inputs c.args.rows.now c.args.row c.args.len c.requires.there))) in
    let same : set c.args.self.now.groups i (record { key = g.key; first = Some (nearer place_cmp c.place-place.result (get_or a.entries.items i no_entry).first); states = run_from c.chunk-chunk.result c.args.row 0 inputs ss })
    ≡ set c.args.self.now.groups i (with_run (row_at c.args.rows.now c.args.row).place.chunk c.args.row inputs g) =
    (λ k. set c.args.self.now.groups i (record { key = g.key; first = first k; states = run_from c.chunk-chunk.result c.args.row 0 inputs (own k) }))
    ∙ ap (λ (m : ℕ). set c.args.self.now.groups i (with_run m c.args.row inputs g)) chunk in (
      put-groups a c.args.self.now c.self.view_is c.self.invariant i c.requires.within b (Some (nearer place_cmp c.place-place.result (get_or a.entries.items i no_entry).first)) (run_from c.chunk-chunk.result c.args.row 0 inputs ss)
          refl c.put_place.ensures.entries c.run_states.ensures refl
          ∙ same,
      ap (λ (s : Seen). s.shape) c.self.view_is,
    )

pub returns-clause-room : goal.returns-clause-room
returns-clause-room c =
    let a : Inside = c.self.inside in
    let i = c.args.index in
    let inputs = run_inputs c.args.rows.now c.args.row c.args.len in
    let b : Inside = record a { entries = c.put_place.new.entries; states = c.run_states.new.states; held = c.put_place.new.held } in
    put-room a c.args.self.now c.self.view_is c.self.invariant i c.requires.within b (Some (nearer place_cmp c.place-place.result (get_or a.entries.items i no_entry).first)) (run_from c.chunk-chunk.result c.args.row 0 inputs (states_in a.states i))
    refl c.put_place.ensures.entries c.run_states.ensures refl c.put_place.ensures.capacity
