use Rattle.std.proofs.Common.{refl}
use Rattle.pipe_tables.proofs.FoundFacts.{same-types}
use Rattle.pipe_tables.proofs.ahead.look_lent.Goals as goal

pub next_key-requires-clause-held : goal.next_key-requires-clause-held
next_key-requires-clause-held c = rw (same-types _ _ _ _ c.input_types.ensures c.groups.ensures.shape refl) c.loop-place.invariant

pub next_key-requires-clause-plain : goal.next_key-requires-clause-plain
next_key-requires-clause-plain c = rw (same-types _ _ _ _ c.input_types.ensures c.groups.ensures.shape refl) c.requires.plain
