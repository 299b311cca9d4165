use Rattle.std.proofs.Common.{refl, sym, ap, ◌∙◌, ◌+◌, length, subst, ℕ, List, arith, ◌<◌}
use Rattle.pipe_groups.specs.Groups.{Covers, group_of, Seen}
use Rattle.pipe_groups.specs.Shape.{Shape}
use Rattle.pipe_keyed.proofs.FindFacts.{marked-at}
use Rattle.pipe_keyed.proofs.KeyFacts.{led-set}
use Rattle.pipe_keyed.proofs.keyed_groups.KeyedGroups.take.Goals as goal

pub cover-index-requires-clause-mark : goal.cover-index-requires-clause-mark
cover-index-requires-clause-mark g c =
    let within = subst (λ (t : Seen). c.args.from < length t.groups) (sym c.other.view_is) c.requires.within in
    let there = marked-at g.M.Marking.marks c.other.inside.groups.shape.key_types c.other.inside.groups.groups _ c.other.invariant.marked c.args.from within in
    let types = ap (λ (t : Seen). t.shape.key_types) c.other.view_is ∙ ap (λ (s : Shape). s.key_types) c.requires.shape in
    rw (c.mark-mark.ensures, c.key.ensures, ← types) there

pub invariant_of-self : goal.invariant_of-self
invariant_of-self g c = led-set g.M.Marking.marks g.M.Marking.can_hide _ _ c.self.inside.groups.shape _ c.self.inside.groups.groups _ _ _ c.cover-index.result _ c.join.ensures.groups refl c.self.invariant

pub invariant_of-other : goal.invariant_of-other
invariant_of-other g c = led-set g.M.Marking.marks g.M.Marking.can_hide _ _ c.other.inside.groups.shape _ c.other.inside.groups.groups _ _ _ c.args.from _ c.join.ensures.others refl c.other.invariant

pub returns-clause-room : goal.returns-clause-room
returns-clause-room g c = λ g b h.
    let left : Covers c.cover-index.new.self g b = c.cover-index.ensures.room g b
    (subst (λ (k : List ℕ). Covers c.args.self.now (g + 1) (b + length k)) (sym (c.key.ensures ∙ ap (λ (t : Seen). (group_of t.groups c.args.from).key) c.other.view_is)) h) in
    let inside = subst (λ (t : Seen). Covers t g b) (sym c.self.view_is) left in
    let after : Covers c.join.new.self g b = c.join.ensures.room g b (omega (arith, inside.0), inside.1, inside.2) in
    (omega (arith, inside.0, after.0), after.1, after.2)
