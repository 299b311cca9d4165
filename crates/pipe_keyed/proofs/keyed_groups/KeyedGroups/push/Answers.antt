use Rattle.std.proofs.Common.{◌≡◌, ◌∙◌, ◌+◌, ◌++◌, ◌∷◌, [], ℕ, List, length, ap, arith, sym, subst}
use Rattle.pipe_groups.specs.Groups.{Covers, new_group, Seen}
use Rattle.pipe_keyed.proofs.KeyFacts.{led-push}
use Rattle.pipe_keyed.proofs.keyed_groups.KeyedGroups.push.Goals as goal

pub invariant_of-self-2 : goal.invariant_of-self-2
invariant_of-self-2 g c =
    let own = subst (λ (t : Seen). g.M.Marking.marks t.shape.key_types c.args.key.now c.args.mark) (sym c.self.view_is) c.requires in
    let more : c.push-2.new.self.marks ≡ c.reserve.new.self.marks ++ c.args.mark ∷ [] = rw c.unwrap.ensures at c.push-2.ensures.ok in
    let further : c.push-2.new.self.leads ≡ c.reserve.new.self.leads ++ c.lead_of-lead.result ∷ [] = rw c.unwrap.ensures at c.push-2.ensures.led in
    led-push g.M.Marking.marks g.M.Marking.can_hide _ _ c.self.inside.groups.shape _ c.self.inside.groups.groups _ (new_group c.self.inside.groups.shape.prototypes c.args.key.now)
    c.self.inside.chains.marks c.self.inside.chains.leads _ _ c.args.mark c.lead_of-lead.result c.self.invariant own c.lead_of-lead.ensures c.in_ok-index.ensures.ok
    (more ∙ ap (λ (ms : List ℕ). ms ++ c.args.mark ∷ []) c.reserve.ensures.marks)
    (further ∙ ap (λ (ls : List ℕ). ls ++ c.lead_of-lead.result ∷ []) c.reserve.ensures.leads)

pub returns-clause-room : goal.returns-clause-room
returns-clause-room g c = λ g b h.
    let was = subst (λ (t : Seen). Covers t (g + 1) (b + length c.args.key.now)) (sym c.self.view_is) h in
    let left : Covers c.push.new.self g b = c.in_ok-index.ensures.room g b (omega (arith, was.0), was.1, was.2) in
    c.hide_where_deep.ensures.room g b (omega (arith, left.0, was.0, c.reserve.ensures.room, c.push-2.ensures.room), left.1, left.2)
