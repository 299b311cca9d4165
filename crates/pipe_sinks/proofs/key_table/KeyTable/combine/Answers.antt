use Rattle.std.proofs.Common.{sym, subst, ◌∙◌}
use Rattle.pipe_groups.specs.Shape.{IsShape, Shape}
use Rattle.pipe_keyed.proofs.CombineFacts.{both-at-hand, combined-kept, few}
use Rattle.pipe_keyed.proofs.TableFacts.{table-none}
use Rattle.pipe_sinks.proofs.key_table.KeyTable.combine.Goals as goal

pub invariant_of-self-2 : goal.invariant_of-self-2
invariant_of-self-2 c =
    let both = (both-at-hand _ _ _ _ c.self.view_is c.other.view_is c.self.invariant c.other.invariant c.requires.shape c.requires.few) in
    let held = few _ _ _ _ both in
    combined-kept _ _ _ _ both _ c.other.inside.keyed.groups held.others
    (rw (c.make_room.ensures.groups.0, c.make_room.ensures.groups.1) at c.take_all.ensures.joined) (c.take_all.ensures.shape ∙ c.make_room.ensures.groups.1)
    c.take_all.ensures.apart (rw c.make_room.ensures.groups.1 at c.take_all.ensures.fresh) held.other_holds held.others_typed held.few

pub invariant_of-other : goal.invariant_of-other
invariant_of-other c = table-none _ (subst (λ (s : Shape). IsShape s) (sym (c.clear.ensures.groups.1 ∙ c.take_all.ensures.other_shape)) c.other.invariant.shape) c.clear.ensures.groups.0
