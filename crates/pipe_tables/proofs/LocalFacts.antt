-- A row comes to a local table.
use Rattle.std.proofs.Common.{◌≡◌, ◌∙◌, ◌||◌, true, false, not, ap}
use Rattle.pipe_spill.specs.declared.spill_row.SpillRow.{SpillRow}
use Rattle.pipe_groups.specs.Groups.{is_held}
use Rattle.pipe_tables.specs.LocalTable.{keeps, Local}
use Rattle.pipe_tables.specs.Tables.{is_full}

-- a new key overflows where the table is full
pub keeps-full : (r : SpillRow) (t : Local) → is_full t.table ≡ true → is_held r.key t.table.groups ≡ false → keeps r t ≡ false
keeps-full r t full new = ap (λ b. b || not (is_full t.table)) new ∙ ap not full
