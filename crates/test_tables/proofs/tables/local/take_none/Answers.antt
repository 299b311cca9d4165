use Rattle.std.proofs.Common.{◌≡◌, [], List, refl, arith}
use Rattle.std.proofs.lemmas.List.Elements.{All-nil, All-replicate}
use Rattle.pipe_spill.specs.SpillRow.{IsRow}
use Rattle.pipe_spill.specs.declared.spill_row.SpillRow.{SpillRow}
use Rattle.pipe_groups.proofs.HoldFacts.{holds-none}
use Rattle.test_tables.proofs.tables.local.take_none.Goals as goal

pub combine-combined-requires-clause-other_none_waits : goal.combine-combined-requires-clause-other_none_waits
combine-combined-requires-clause-other_none_waits c = rw c.in_ok-other.ensures.rows (All-replicate (λ (rows : List SpillRow). rows ≡ []) _ [] refl)

pub combine-combined-requires-clause-few : goal.combine-combined-requires-clause-few
combine-combined-requires-clause-few c = record {
  rows = c.requires.few.rows;
  others = [];
  holds = c.requires.few.holds;
  other_holds = rw c.in_ok-other.ensures.groups (holds-none c.args.table.now.table.shape.prototypes);
  typed = c.requires.few.typed;
  others_typed = All-nil (IsRow c.args.table.now.table.shape.key_types c.args.table.now.table.shape.input_types);
  few = omega (arith, c.requires.few.few);
}
