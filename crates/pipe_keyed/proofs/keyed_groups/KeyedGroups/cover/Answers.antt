use Rattle.std.proofs.Common.{refl, sym}
use Rattle.pipe_groups.proofs.PutFacts.{cover-there, is_covered-at}
use Rattle.pipe_keyed.proofs.keyed_groups.KeyedGroups.cover.Goals as goal

pub returns-in-Some-clause-groups : goal.returns-in-Some-clause-groups
returns-in-Some-clause-groups g c =
    (sym (cover-there _ _ _ (is_covered-at _ c.args.self.now.groups c.in-Some.index c.in-Some.ensures.0 c.in-Some.ensures.1)), refl)
