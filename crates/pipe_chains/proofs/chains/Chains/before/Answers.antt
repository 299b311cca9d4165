use Rattle.std.proofs.Common.{◌≡◌, ◌<◌, ◌∙◌, ap, arith, get_or, length, take}
use Rattle.std.proofs.lemmas.List.{length-map}
use Rattle.pipe_chains.specs.declared.link.Link.{Link}
use Rattle.pipe_chains.specs.Chains.{last_of, Marked}
use Rattle.pipe_chains.specs.Heads.{slot_of, told_at}
use Rattle.pipe_chains.specs.Layout.{leads_of}
use Rattle.pipe_chains.proofs.AlongFacts.{link-last, of-link}
use Rattle.pipe_chains.proofs.chains.Chains.before.Goals as goal

pub along-requires-clause-slot : goal.along-requires-clause-slot
along-requires-clause-slot c =
    let heads = c.self.inside.heads in
    let within : c.args.index < length c.self.inside.links.items =
    omega (arith, c.requires, ap (λ (m : Marked). length m.leads) c.self.view_is, length-map c.self.inside.links.items (λ (l : Link). l.lead)) in
    rw (c.as_slice.ensures.value) (of-link (slot_of heads) (told_at heads) c.self.inside.links.items c.self.invariant.linked c.args.index c.index.result.now within c.index.ensures).on

pub returns : goal.returns
returns c =
    let heads = c.self.inside.heads in
    let leads = leads_of c.self.inside.links.items in
    let within : c.args.index < length c.self.inside.links.items =
    omega (arith, c.requires, ap (λ (m : Marked). length m.leads) c.self.view_is, length-map c.self.inside.links.items (λ (l : Link). l.lead)) in
    let last : c.along.result ≡ last_of (get_or leads c.args.index 0) (take c.args.index leads) =
    rw (c.along.ensures, c.as_slice.ensures.value) (link-last (slot_of heads) (told_at heads) c.self.inside.links.items c.self.invariant.linked c.args.index c.index.result.now within c.index.ensures) in
    last ∙ ap (λ (m : Marked). last_of (get_or m.leads c.args.index 0) (take c.args.index m.leads)) c.self.view_is
