use Rattle.std.proofs.Common.{◌≡◌, [], List, refl}
use Rattle.std.proofs.lemmas.List.Elements.{All-replicate}
use Rattle.pipe_spill.specs.declared.spill_row.SpillRow.{SpillRow}
use Rattle.test_tables.proofs.tables.local.emptied.Goals as goal

pub take_none-requires-clause-none_waits : goal.take_none-requires-clause-none_waits
take_none-requires-clause-none_waits c = rw c.in_ok-waited.ensures.ok (All-replicate (λ (rows : List SpillRow). rows ≡ []) _ [] refl)

pub take_none-requires-clause-few : goal.take_none-requires-clause-few
take_none-requires-clause-few c = rw c.in_ok-waited.ensures.ok c.requires
