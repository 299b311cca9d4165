use Rattle.std.proofs.Common.{◌∙◌, List, ap, subst, sym}
use Rattle.std.proofs.lemmas.List.{with_items_is}
use Rattle.pipe_kinds.specs.Columns.{ColumnStates}
use Rattle.pipe_kinds.specs.ManyStates.{ManyStates}
use Rattle.pipe_kinds.specs.Stored.{AreStored, rows_from}
use Rattle.pipe_kinds.proofs.StoredFacts.{AreReserved, length-reserved, seen-reserved, stored-reserved}
use Rattle.pipe_kinds.proofs.states.States.reserve.Goals as goal

pub invariant_of-self : goal.invariant_of-self
invariant_of-self c =
    let same : AreReserved c.self.inside.columns.items c.reserve_all.new.columns = rw (← c.deref_mut.ensures.value) (record { states = c.in_err-self-inside.ensures.states; fresh = c.in_err-self-inside.ensures.fresh; keeps = c.in_err-self-inside.ensures.keeps }) in
    let whole = with_items_is c.self.inside.columns c.reserve_all.new.columns (length-reserved c.self.inside.columns.items c.reserve_all.new.columns same c.self.inside.count ∙ sym c.self.inside.columns.ok.0) in
    subst (λ (cs : List ColumnStates). AreStored cs c.self.inside.count c.self.inside.room) (sym whole)
    (stored-reserved c.self.inside.columns.items c.reserve_all.new.columns same c.self.inside.count c.self.inside.room c.self.inside.room c.self.invariant (same.keeps c.self.inside.room c.self.invariant.rooms) c.self.invariant.bound)

pub returns-in_err-self-inside-clause-groups : goal.returns-in_err-self-inside-clause-groups
returns-in_err-self-inside-clause-groups c =
    let same : AreReserved c.self.inside.columns.items c.reserve_all.new.columns = rw (← c.deref_mut.ensures.value) (record { states = c.in_err-self-inside.ensures.states; fresh = c.in_err-self-inside.ensures.fresh; keeps = c.in_err-self-inside.ensures.keeps }) in
    let whole = with_items_is c.self.inside.columns c.reserve_all.new.columns (length-reserved c.self.inside.columns.items c.reserve_all.new.columns same c.self.inside.count ∙ sym c.self.inside.columns.ok.0) in
    ap (λ (cs : List ColumnStates). rows_from cs 0 c.self.inside.count) whole
    ∙ ap (λ (m : ManyStates). m.groups) (seen-reserved c.self.inside.columns.items c.reserve_all.new.columns same c.self.inside.count c.self.inside.room ∙ c.self.view_is)

pub invariant_of-self-2 : goal.invariant_of-self-2
invariant_of-self-2 c =
    let same : AreReserved c.self.inside.columns.items c.reserve_all.new.columns = rw (← c.deref_mut.ensures.value) (record { states = c.in_ok-self-inside.ensures.states; fresh = c.in_ok-self-inside.ensures.fresh; keeps = c.in_ok-self-inside.ensures.keeps }) in
    let whole = with_items_is c.self.inside.columns c.reserve_all.new.columns (length-reserved c.self.inside.columns.items c.reserve_all.new.columns same c.self.inside.count ∙ sym c.self.inside.columns.ok.0) in
    subst (λ (cs : List ColumnStates). AreStored cs c.self.inside.count c.in_ok-self-inside.field-0) (sym whole)
    (stored-reserved c.self.inside.columns.items c.reserve_all.new.columns same c.self.inside.count c.self.inside.room c.in_ok-self-inside.field-0 c.self.invariant c.in_ok-self-inside.ensures.room c.in_ok-self-inside.ensures.bound)

pub returns-clause-groups : goal.returns-clause-groups
returns-clause-groups c =
    let same : AreReserved c.self.inside.columns.items c.reserve_all.new.columns = rw (← c.deref_mut.ensures.value) (record { states = c.in_ok-self-inside.ensures.states; fresh = c.in_ok-self-inside.ensures.fresh; keeps = c.in_ok-self-inside.ensures.keeps }) in
    let whole = with_items_is c.self.inside.columns c.reserve_all.new.columns (length-reserved c.self.inside.columns.items c.reserve_all.new.columns same c.self.inside.count ∙ sym c.self.inside.columns.ok.0) in
    ap (λ (cs : List ColumnStates). rows_from cs 0 c.self.inside.count) whole
    ∙ ap (λ (m : ManyStates). m.groups) (seen-reserved c.self.inside.columns.items c.reserve_all.new.columns same c.self.inside.count c.self.inside.room ∙ c.self.view_is)
