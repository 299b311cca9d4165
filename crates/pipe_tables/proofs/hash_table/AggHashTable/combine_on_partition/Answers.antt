use Rattle.std.proofs.Common.{◌∙◌, ap, sym}
use Rattle.pipe_tables.specs.Parts.{marks_in}
use Rattle.pipe_keyed.proofs.CombineFacts.{both-at-hand, same-shape}
use Rattle.pipe_tables.proofs.PartTables.{part-combined, part-left}
use Rattle.pipe_tables.proofs.hash_table.AggHashTable.combine_on_partition.Goals as goal

pub invariant_of-self-2 : goal.invariant_of-self-2
invariant_of-self-2 c = record {
  table = part-combined c.in_ok-parts.parts.partitions c.args.partition _ _ _ _
      (both-at-hand _ _ _ _ c.self.view_is c.other.view_is c.self.invariant.table c.other.invariant.table c.requires.shape c.requires.few) _
      (rw (c.make_room_for_part.ensures.groups.0, c.make_room_for_part.ensures.groups.1) at c.take_part.ensures.joined) (c.take_part.ensures.shape ∙ c.make_room_for_part.ensures.groups.1)
      c.take_part.ensures.apart (rw c.make_room_for_part.ensures.groups.1 at c.take_part.ensures.fresh);
  parts = tt;
}

pub invariant_of-other-2 : goal.invariant_of-other-2
invariant_of-other-2 c =
    let both = (both-at-hand _ _ _ _ c.self.view_is c.other.view_is c.self.invariant.table c.other.invariant.table c.requires.shape c.requires.few) in
    record {
      table = part-left c.in_ok-parts.parts.partitions c.args.partition _ _ c.other.invariant.table c.take_part.ensures.other_shape c.take_part.ensures.keys
          (rw (c.make_room_for_part.ensures.groups.1, ← same-shape _ _ _ _ both) at c.take_part.ensures.other_fresh) c.take_part.ensures.rest;
      parts = c.in_ok-parts.ensures.parts ∙ ap (marks_in c.in_ok-parts.parts.partitions) (sym c.take_part.ensures.keys);
    }
