use Rattle.std.proofs.Common.{◌∙◌, ◌<◌, List, length, map, ap, subst, sym}
use Rattle.std.proofs.lemmas.List.{length-map, with_items_is}
use Rattle.std.specs.List.{All}
use Rattle.pipe_running.specs.declared.function.AggregateFunction.{AggregateFunction}
use Rattle.pipe_kinds.specs.Columns.{ColumnStates}
use Rattle.pipe_kinds.specs.ManyStates.{AreJoinable, states_in}
use Rattle.pipe_kinds.specs.Stored.{AreStored, emptied_at, fresh_in, joined_first, row_in, seen_in}
use Rattle.pipe_kinds.proofs.JoinFacts.{length-joined, stored-emptied}
use Rattle.pipe_kinds.proofs.ViewFacts.{all-high, emptied-seen, joined-seen, joined-stored, row-is, same-kinds}
use Rattle.pipe_kinds.proofs.states.States.join.Goals as goal

pub join_all-requires-clause-within : goal.join_all-requires-clause-within
join_all-requires-clause-within c =
    subst (λ (cs : List ColumnStates). All (λ (x : ColumnStates). c.args.group < length x.states) cs) (sym c.deref_mut.ensures.value)
    (all-high c.self.inside.columns.items c.self.inside.count c.self.inside.room c.args.self.now c.self.view_is c.self.invariant c.args.group c.requires.within)

pub join_all-requires-clause-from : goal.join_all-requires-clause-from
join_all-requires-clause-from c =
    subst (λ (cs : List ColumnStates). All (λ (x : ColumnStates). c.args.from < length x.states) cs) (sym c.deref_mut-2.ensures.value)
    (all-high c.other.inside.columns.items c.other.inside.count c.other.inside.room c.args.other.now c.other.view_is c.other.invariant c.args.from c.requires.from)

pub join_all-requires-clause-fresh : goal.join_all-requires-clause-fresh
join_all-requires-clause-fresh c =
    ap fresh_in c.deref_mut-2.ensures.value
    ∙ same-kinds c.self.inside.columns.items c.self.inside.count c.self.inside.room c.args.self.now c.self.view_is c.self.invariant
    c.other.inside.columns.items c.other.inside.count c.other.inside.room c.args.other.now c.other.view_is c.other.invariant c.args.group c.args.from c.requires.within c.requires.fresh
    ∙ ap fresh_in (sym c.deref_mut.ensures.value)

pub join_all-requires-clause-joinable : goal.join_all-requires-clause-joinable
join_all-requires-clause-joinable c =
    let here = ap (λ (cs : List ColumnStates). row_in cs c.args.group) c.deref_mut.ensures.value
    ∙ row-is c.self.inside.columns.items c.self.inside.count c.self.inside.room c.args.self.now c.self.view_is c.self.invariant c.args.group c.requires.within in
    let there = ap (λ (cs : List ColumnStates). row_in cs c.args.from) c.deref_mut-2.ensures.value
    ∙ row-is c.other.inside.columns.items c.other.inside.count c.other.inside.room c.args.other.now c.other.view_is c.other.invariant c.args.from c.requires.from in
    subst (λ (ss : List AggregateFunction). AreJoinable ss (row_in c.deref_mut-2.result.now c.args.from)) (sym here)
    (subst (λ (ts : List AggregateFunction). AreJoinable (states_in c.args.self.now c.args.group) ts) (sym there) c.requires.joinable)

pub invariant_of-self : goal.invariant_of-self
invariant_of-self c =
    let cs = c.self.inside.columns.items in
    let os = c.other.inside.columns.items in
    let d = c.deref_mut.ensures.value in
    let e = c.deref_mut-2.ensures.value in
    let are = c.join_all.ensures.columns ∙ (λ k. joined_first c.args.group c.args.from (length (d k)) (e k) (d k)) in
    let whole = with_items_is c.self.inside.columns c.join_all.new.columns
    (ap length are ∙ length-joined c.args.group c.args.from (length cs) os cs ∙ sym c.self.inside.columns.ok.0) ∙ are in
    subst (λ (l : List ColumnStates). AreStored l c.self.inside.count c.self.inside.room) (sym whole)
    (joined-stored c.self.inside.columns.items c.self.inside.count c.self.inside.room c.args.self.now c.self.view_is c.self.invariant
    c.other.inside.columns.items c.other.inside.count c.other.inside.room c.args.other.now c.other.view_is c.other.invariant c.args.group c.args.from c.requires.within c.requires.fresh)

pub invariant_of-other : goal.invariant_of-other
invariant_of-other c =
    let are = c.join_all.ensures.others ∙ ap (map (emptied_at c.args.from)) c.deref_mut-2.ensures.value in
    let whole = with_items_is c.other.inside.columns c.join_all.new.others
    (ap length are ∙ length-map c.other.inside.columns.items (emptied_at c.args.from) ∙ sym c.other.inside.columns.ok.0) ∙ are in
    subst (λ (l : List ColumnStates). AreStored l c.other.inside.count c.other.inside.room) (sym whole)
    (stored-emptied c.args.from c.other.inside.count c.other.inside.room c.other.inside.columns.items c.other.invariant)

pub returns-clause-states : goal.returns-clause-states
returns-clause-states c =
    let cs = c.self.inside.columns.items in
    let os = c.other.inside.columns.items in
    let d = c.deref_mut.ensures.value in
    let e = c.deref_mut-2.ensures.value in
    let are = c.join_all.ensures.columns ∙ (λ k. joined_first c.args.group c.args.from (length (d k)) (e k) (d k)) in
    let whole = with_items_is c.self.inside.columns c.join_all.new.columns
    (ap length are ∙ length-joined c.args.group c.args.from (length cs) os cs ∙ sym c.self.inside.columns.ok.0) ∙ are in
    ap (λ (l : List ColumnStates). seen_in l c.self.inside.count c.self.inside.room) whole
    ∙ joined-seen c.self.inside.columns.items c.self.inside.count c.self.inside.room c.args.self.now c.self.view_is c.self.invariant
    c.other.inside.columns.items c.other.inside.count c.other.inside.room c.args.other.now c.other.view_is c.other.invariant c.args.group c.args.from c.requires.within c.requires.fresh
    (row-is c.other.inside.columns.items c.other.inside.count c.other.inside.room c.args.other.now c.other.view_is c.other.invariant c.args.from c.requires.from)

pub returns-clause-others : goal.returns-clause-others
returns-clause-others c =
    let are = c.join_all.ensures.others ∙ ap (map (emptied_at c.args.from)) c.deref_mut-2.ensures.value in
    let whole = with_items_is c.other.inside.columns c.join_all.new.others
    (ap length are ∙ length-map c.other.inside.columns.items (emptied_at c.args.from) ∙ sym c.other.inside.columns.ok.0) ∙ are in
    ap (λ (l : List ColumnStates). seen_in l c.other.inside.count c.other.inside.room) whole
    ∙ emptied-seen c.other.inside.columns.items c.other.inside.count c.other.inside.room c.args.other.now c.other.view_is c.other.invariant c.args.from c.requires.from
