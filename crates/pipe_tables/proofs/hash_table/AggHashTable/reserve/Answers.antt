use Rattle.std.proofs.Common.{refl, ◌∙◌}
use Rattle.pipe_tables.proofs.ReserveFacts.{table-rows}
use Rattle.pipe_tables.proofs.hash_table.AggHashTable.reserve.Goals as goal

pub invariant_of-self-2 : goal.invariant_of-self-2
invariant_of-self-2 c = record {
  table = table-rows c.args.rows.now _ _ c.self.invariant.table
      (rw (c.make_room.ensures.groups.0, c.make_room.ensures.groups.1) at c.cover_all.ensures.0, c.cover_all.ensures.1 ∙ c.make_room.ensures.groups.1, refl);
  parts = tt;
}
