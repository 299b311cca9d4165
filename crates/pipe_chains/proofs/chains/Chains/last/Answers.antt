use Rattle.std.proofs.Common.{◌≡◌, ◌∙◌, ap}
use Rattle.pipe_chains.specs.Chains.{last_of, Marked}
use Rattle.pipe_chains.specs.Heads.{slot_of, told_at}
use Rattle.pipe_chains.specs.Layout.{leads_of}
use Rattle.pipe_chains.proofs.AlongFacts.{head-last, head-slot}
use Rattle.pipe_chains.proofs.chains.Chains.last.Goals as goal

pub along-requires-clause-slot : goal.along-requires-clause-slot
along-requires-clause-slot c =
    let heads = c.self.inside.heads in
    rw (c.of_lead-told.ensures, c.as_slice.ensures.value) (head-slot (slot_of heads) (told_at heads) c.self.inside.links.items c.self.invariant.linked c.args.lead)

pub returns : goal.returns
returns c =
    let heads = c.self.inside.heads in
    let last : c.along.result ≡ last_of c.args.lead (leads_of c.self.inside.links.items) =
    rw (c.along.ensures, c.of_lead-told.ensures, c.as_slice.ensures.value) (head-last (slot_of heads) (told_at heads) c.self.inside.links.items c.self.invariant.linked c.args.lead) in
    last ∙ ap (λ (m : Marked). last_of c.args.lead m.leads) c.self.view_is
