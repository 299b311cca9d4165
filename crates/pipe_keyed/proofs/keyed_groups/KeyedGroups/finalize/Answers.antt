use Rattle.std.proofs.Common.{sym, subst}
use Rattle.std.specs.List.{All}
use Rattle.pipe_groups.specs.Given.{CanGive}
use Rattle.pipe_groups.specs.Groups.{held_groups, Seen}
use Rattle.pipe_keyed.proofs.keyed_groups.KeyedGroups.finalize.Goals as goal

pub finalize-requires-clause-gives : goal.finalize-requires-clause-gives
finalize-requires-clause-gives g c = subst (λ (t : Seen). All (CanGive t.shape) (held_groups t.groups)) (sym c.self.view_is) c.requires.gives
