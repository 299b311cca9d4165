use Rattle.std.proofs.Common.{◌+◌, List, length, arith}
use Rattle.pipe_groups.specs.Shape.{Shape}
use Rattle.pipe_spill.specs.declared.spill_row.SpillRow.{SpillRow}
use Rattle.pipe_tables.proofs.FewerFacts.{fewer_none}
use Rattle.test_tables.proofs.tables.two_tables.TwoTables.new.Goals as goal

pub invariant_of-result : goal.invariant_of-result
invariant_of-result c =
    let s : Shape = c.in_ok-table.table.shape in
    let rows : List SpillRow = c.in_ok-rows.rows.items in
    let few = c.in_ok-rows.ensures.few in (
      0,
      omega (arith, few),
      fewer_none s c.in_ok-table.table.groups (0 + length rows) c.in_ok-table.ensures.groups (omega (arith, few)),
      fewer_none s c.in-Ok.other.groups 4294967295 c.in-Ok.ensures.groups (omega arith),
      rw c.in_ok-table.ensures.shape c.in_ok-rows.ensures.typed,
      c.in-Ok.ensures.shape,
    )
