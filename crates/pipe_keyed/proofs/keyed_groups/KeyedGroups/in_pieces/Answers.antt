use Rattle.std.proofs.Common.{sym, subst}
use Rattle.std.specs.List.{All}
use Rattle.pipe_groups.specs.Given.{CanGive}
use Rattle.pipe_groups.specs.Groups.{held_groups, Seen}
use Rattle.pipe_keyed.proofs.keyed_groups.KeyedGroups.in_pieces.Goals as goal

pub in_pieces-requires-clause-gives : goal.in_pieces-requires-clause-gives
in_pieces-requires-clause-gives g c = subst (λ (t : Seen). All (CanGive t.shape) (held_groups t.groups)) (sym c.self.view_is) c.requires.gives
