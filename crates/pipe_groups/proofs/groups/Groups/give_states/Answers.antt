use Rattle.std.proofs.Common.{rules, ◌≡◌, ◌∙◌, ◌++◌, ℕ, List, length, map, take, drop, refl, ap}
use Rattle.pipe_columns.specs.declared.any_value.AnyValue.{AnyValue}
use Rattle.pipe_columns.proofs.FrameFacts.{whole}
use Rattle.pipe_running.specs.GroupStates.{given_all}
use Rattle.pipe_groups.specs.declared.unfinished.Unfinished.{Unfinished}
use Rattle.pipe_groups.specs.Columns.{columns_of_unfinished, with_rows}
use Rattle.pipe_groups.specs.declared.groups.Groups.TheInside.{Inside}
use Rattle.pipe_groups.specs.Groups.{group_of, Seen}
use Rattle.pipe_groups.proofs.LeftFacts.{left-count, left-laid, left-others}
use Rattle.pipe_groups.proofs.TakenFacts.{all-give, all-long, all-within}
use Rattle.pipe_groups.proofs.groups.Groups.give_states.Goals as goal

pub give_groups-requires-clause-within : goal.give_groups-requires-clause-within
give_groups-requires-clause-within c = all-within c.self.inside c.args.self.now c.self.view_is c.self.invariant c.args.taken.now c.requires.within c.requires.gives

pub give_groups-requires-clause-fits : goal.give_groups-requires-clause-fits
give_groups-requires-clause-fits c =
    let many : length c.deref_mut.result.now ≡ length (drop (length c.args.self.now.shape.key_types) c.args.self.now.shape.fields) =
    ap (λ (us : List Unfinished). length us) c.deref_mut.ensures.value ∙ c.requires.columns in
    all-long c.self.inside c.args.self.now c.self.view_is c.self.invariant c.args.taken.now c.requires.within c.requires.gives (length c.deref_mut.result.now) many

pub returns-clause-columns : goal.returns-clause-columns
returns-clause-columns c =
    let taken : List ℕ = c.args.taken.now in
    let items : List Unfinished = c.args.columns.now.items in
    let long : length c.give_groups.new.columns ≡ length items = search rules in
    let back : take c.args.columns.now.len (c.give_groups.new.columns ++ drop (length c.give_groups.new.columns) items) ≡ c.give_groups.new.columns =
    whole c.args.columns.now.len c.give_groups.new.columns items long c.args.columns.now.ok.0 in
    let rows = all-give c.self.inside c.args.self.now c.self.view_is c.self.invariant taken c.requires.within c.requires.gives in
    ap columns_of_unfinished back ∙ c.give_groups.ensures.columns ∙ ap (λ (rs : List (List AnyValue)). with_rows rs (columns_of_unfinished c.deref_mut.result.now)) rows
    ∙ ap (λ (us : List Unfinished). with_rows (map (λ i. given_all (group_of c.args.self.now.groups i).states) taken) (columns_of_unfinished us)) c.deref_mut.ensures.value

pub invariant_of-self : goal.invariant_of-self
invariant_of-self c = left-laid c.self.inside _ c.self.invariant refl refl refl refl c.give_groups.ensures.like c.give_groups.ensures.count c.give_groups.ensures.each

pub returns-clause-shape : goal.returns-clause-shape
returns-clause-shape c = ap (λ (s : Seen). s.shape) c.self.view_is

pub returns-clause-count : goal.returns-clause-count
returns-clause-count c =
    left-count c.self.inside (record c.self.inside { states = c.give_groups.new.states }) refl ∙ ap (λ (s : Seen). length s.groups) c.self.view_is

pub returns-clause-others : goal.returns-clause-others
returns-clause-others c = λ k apart.
    let b : Inside = record c.self.inside { states = c.give_groups.new.states } in
    left-others c.self.inside b refl refl k (c.give_groups.ensures.others k apart) ∙ ap (λ (s : Seen). group_of s.groups k) c.self.view_is
