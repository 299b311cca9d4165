use Rattle.std.proofs.Common.{refl, sym}
use Rattle.pipe_groups.proofs.PutFacts.{cover-there, is_covered-at}
use Rattle.pipe_tables.proofs.find_waiting.spot_of.Goals as goal

pub returns-in-Some-clause-ok : goal.returns-in-Some-clause-ok
returns-in-Some-clause-ok c =
    (sym (cover-there _ _ _ (is_covered-at _ c.args.keyed.now.groups c.in-Some.index c.in-Some.ensures.0 c.in-Some.ensures.1)), refl)
