use Rattle.std.proofs.Common.{◌∙◌, List, length, map, ap, subst, sym}
use Rattle.std.proofs.lemmas.List.{length-map, with_items_is}
use Rattle.pipe_kinds.specs.Columns.{ColumnStates, released}
use Rattle.pipe_kinds.specs.ManyStates.{ManyStates}
use Rattle.pipe_kinds.specs.Stored.{AreStored, fresh_in}
use Rattle.pipe_kinds.proofs.StoredFacts.{fresh-released, stored-released}
use Rattle.pipe_kinds.proofs.states.States.release.Goals as goal

pub invariant_of-self : goal.invariant_of-self
invariant_of-self c =
    let are = c.release_all.ensures ∙ ap (map released) c.deref_mut.ensures.value in
    let whole = with_items_is c.self.inside.columns c.release_all.new.columns (ap length are ∙ length-map c.self.inside.columns.items released ∙ sym c.self.inside.columns.ok.0) ∙ are in
    subst (λ (cs : List ColumnStates). AreStored cs 0 0) (sym whole)
    (stored-released c.self.inside.columns.items c.self.inside.count c.self.inside.room c.self.invariant)

pub returns-clause-fresh : goal.returns-clause-fresh
returns-clause-fresh c =
    let are = c.release_all.ensures ∙ ap (map released) c.deref_mut.ensures.value in
    let whole = with_items_is c.self.inside.columns c.release_all.new.columns (ap length are ∙ length-map c.self.inside.columns.items released ∙ sym c.self.inside.columns.ok.0) ∙ are in
    ap fresh_in whole ∙ fresh-released c.self.inside.columns.items ∙ ap (λ (m : ManyStates). m.fresh) c.self.view_is
