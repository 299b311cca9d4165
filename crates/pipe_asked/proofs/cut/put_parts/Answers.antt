use Rattle.std.proofs.Common.{rules, ◌∙◌, arith, refl, sym}
use Rattle.pipe_groups.specs.Groups.{held_at}
use Rattle.pipe_asked.proofs.SideBySide.{all-on, cut-few, left-next, part-taken, parts-more}
use Rattle.pipe_asked.proofs.cut.put_parts.Goals as goal

pub loop-partition-init : goal.loop-partition-init
loop-partition-init c = record {
  count = search rules;
  shape = refl;
  left = λ k. all-on c.args.partitions k (held_at k c.args.local.now.groups);
  parts = λ p d lt. absurd (omega (arith, lt));
}

pub combine_on_partition-requires-clause-shape : goal.combine_on_partition-requires-clause-shape
combine_on_partition-requires-clause-shape c = c.loop-partition.invariant.shape ∙ c.requires.shape ∙ sym c.in_ok-part.ensures.shape

pub combine_on_partition-requires-clause-few : goal.combine_on_partition-requires-clause-few
combine_on_partition-requires-clause-few c =
    cut-few c.args.partitions c.loop-partition.partition c.args.local.now c.loop-partition.local c.loop-partition.invariant.left c.in_ok-part.part c.in_ok-part.ensures.groups
    (c.in_ok-part.ensures.shape ∙ sym c.requires.shape ∙ sym c.loop-partition.invariant.shape) c.loop-partition.invariant.shape c.requires.few

pub loop-partition-preserved : goal.loop-partition-preserved
loop-partition-preserved c = record {
  count = search rules;
  shape = c.in-Ok.ensures.other_shape.0 ∙ c.loop-partition.invariant.shape;
  left = left-next c.args.partitions c.loop-partition.partition c.args.local.now c.loop-partition.local c.loop-partition.invariant.left c.combine_on_partition.new.other c.in-Ok.ensures.rest;
  parts = parts-more c.args.partitions c.loop-partition.partition c.args.local.now c.loop-partition.parts.items c.push_reserved.new.self.items c.combine_on_partition.new.self c.loop-partition.invariant.count c.push_reserved.ensures.items c.loop-partition.invariant.parts
      (part-taken c.args.partitions c.loop-partition.partition c.args.local.now c.loop-partition.local c.loop-partition.invariant.left c.in_ok-part.part c.combine_on_partition.new.self c.in_ok-part.ensures.groups
      (c.in_ok-part.ensures.shape ∙ sym c.requires.shape ∙ sym c.loop-partition.invariant.shape) c.loop-partition.invariant.shape c.in-Ok.ensures.shape.0 c.in-Ok.ensures.joined);
}
