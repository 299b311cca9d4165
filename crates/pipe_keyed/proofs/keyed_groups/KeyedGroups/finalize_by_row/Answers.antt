use Rattle.std.proofs.Common.{sym, subst}
use Rattle.std.specs.List.{All}
use Rattle.pipe_groups.specs.Given.{CanGive}
use Rattle.pipe_groups.specs.Groups.{held_groups, Seen}
use Rattle.pipe_groups.specs.Placed.{HaveFirstsApart}
use Rattle.pipe_keyed.proofs.keyed_groups.KeyedGroups.finalize_by_row.Goals as goal

pub finalize_by_row-requires-clause-gives : goal.finalize_by_row-requires-clause-gives
finalize_by_row-requires-clause-gives g c = subst (λ (t : Seen). All (CanGive t.shape) (held_groups t.groups)) (sym c.self.view_is) c.requires.gives

pub finalize_by_row-requires-clause-firsts : goal.finalize_by_row-requires-clause-firsts
finalize_by_row-requires-clause-firsts g c = subst (λ (t : Seen). HaveFirstsApart t.groups) (sym c.self.view_is) c.requires.firsts
