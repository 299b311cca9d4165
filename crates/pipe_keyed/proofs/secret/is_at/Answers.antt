use Rattle.std.proofs.Common.{sym}
use Rattle.pipe_keyed.proofs.FindFacts.{other-mark}
use Rattle.pipe_keyed.proofs.secret.is_at.Goals as goal

pub returns-then-mark : goal.returns-then-mark
returns-then-mark g c =
    let types = c.args.groups.now.shape.key_types in
    let is = g.met.S.Sought.marked c.args.sought.now types c.args.mark c.requires.mark in
    sym (other-mark g.M.Marking.marks types c.args.groups.now.groups c.args.chains.now.marks _ c.args.mark c.args.index c.mark.result c.requires.marked
    (g.M.Marking.once types) is c.requires.within c.mark.ensures c.if-mark.true)
