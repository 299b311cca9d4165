use Rattle.std.proofs.Common.{◌≡◌, ◌+◌, ◌∙◌, length, arith, refl, sym, ap, subst}
use Rattle.std.specs.Vec.{with_item}
use Rattle.pipe_chains.specs.declared.heads.Heads.{Heads}
use Rattle.pipe_chains.specs.Heads.{slot_of, told_at}
use Rattle.pipe_chains.specs.Layout.{IsOfSlot}
use Rattle.pipe_chains.proofs.AlongFacts.{head-slot}
use Rattle.pipe_chains.proofs.HeadFacts.{linked-more, slot-within, told-is}
use Rattle.pipe_chains.proofs.link.link_to.Goals as goal

pub index-behind-requires : goal.index-behind-requires
index-behind-requires c =
    omega (arith, slot-within c.args.heads.now c.args.lead c.requires.headed, c.slot-slot.ensures, c.args.heads.now.told.ok.0)

pub along-requires-clause-slot : goal.along-requires-clause-slot
along-requires-clause-slot c =
    let heads = c.args.heads.now in
    let told : told_at heads (slot_of heads c.args.lead) ≡ c.index-behind.result.now =
    sym (told-is heads c.args.lead c.slot-slot.result _ c.requires.headed c.slot-slot.ensures c.index-behind.ensures ∙ ap (told_at heads) c.slot-slot.ensures) in
    subst (IsOfSlot (slot_of heads) c.args.links.now c.args.lead) told
    (head-slot (slot_of heads) (told_at heads) c.args.links.now c.requires.linked c.args.lead)

pub index_mut-requires : goal.index_mut-requires
index_mut-requires c =
    omega (arith, slot-within c.args.heads.now c.args.lead c.requires.headed, c.slot-slot.ensures, c.args.heads.now.told.ok.0)

pub returns-clause-linked : goal.returns-clause-linked
returns-clause-linked c =
    let entry = length c.args.links.now + 1 in
    let new : Heads = record { told = with_item c.args.heads.now.told c.slot-slot.result entry; start = c.args.heads.now.start } in
    linked-more c.args.heads.now new c.args.links.now _ c.requires.linked refl c.requires.headed c.slot-slot.result entry c.slot-slot.ensures (omega arith) (omega arith) refl
    (told-is c.args.heads.now c.args.lead c.slot-slot.result _ c.requires.headed c.slot-slot.ensures c.index-behind.ensures)
