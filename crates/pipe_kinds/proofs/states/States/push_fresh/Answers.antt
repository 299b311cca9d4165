use Rattle.std.proofs.Common.{◌∙◌, ◌+◌, ◌-◌, List, length, map, ap, subst, sym}
use Rattle.std.proofs.lemmas.List.{length-map, with_items_is}
use Rattle.pipe_kinds.specs.Columns.{ColumnStates, pushed}
use Rattle.pipe_kinds.specs.Stored.{AreStored, HaveRoom, seen_in}
use Rattle.pipe_kinds.proofs.ViewFacts.{pushed-seen, pushed-stored, room-for-one}
use Rattle.pipe_kinds.proofs.states.States.push_fresh.Goals as goal

pub push_all-requires : goal.push_all-requires
push_all-requires c = subst (λ (cs : List ColumnStates). HaveRoom 1 cs) (sym c.deref_mut.ensures.value) (room-for-one c.self.inside.columns.items c.self.inside.count c.self.inside.room c.args.self.now c.self.view_is c.self.invariant c.requires)

pub invariant_of-self : goal.invariant_of-self
invariant_of-self c =
    let are = c.push_all.ensures ∙ ap (map pushed) c.deref_mut.ensures.value in
    let whole = with_items_is c.self.inside.columns c.push_all.new.columns (ap length are ∙ length-map c.self.inside.columns.items pushed ∙ sym c.self.inside.columns.ok.0) ∙ are in
    subst (λ (cs : List ColumnStates). AreStored cs (c.self.inside.count + 1) (c.self.inside.room - 1)) (sym whole) (pushed-stored c.self.inside.columns.items c.self.inside.count c.self.inside.room c.args.self.now c.self.view_is c.self.invariant c.requires)

pub returns : goal.returns
returns c =
    let are = c.push_all.ensures ∙ ap (map pushed) c.deref_mut.ensures.value in
    let whole = with_items_is c.self.inside.columns c.push_all.new.columns (ap length are ∙ length-map c.self.inside.columns.items pushed ∙ sym c.self.inside.columns.ok.0) ∙ are in
    ap (λ (cs : List ColumnStates). seen_in cs (c.self.inside.count + 1) (c.self.inside.room - 1)) whole
    ∙ pushed-seen c.self.inside.columns.items c.self.inside.count c.self.inside.room c.args.self.now c.self.view_is c.self.invariant
