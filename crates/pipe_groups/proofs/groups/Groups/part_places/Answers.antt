use Rattle.std.proofs.Common.{◌∙◌, ◌%◌, ℕ, List, refl, ap, arith}
use Rattle.pipe_columns.specs.Key.{fold_bytes}
use Rattle.pipe_groups.proofs.TurnFacts.{key_places-next}
use Rattle.pipe_groups.proofs.groups.Groups.part_places.Goals as goal

pub loop-at-preserved : goal.loop-at-preserved
loop-at-preserved c =
    key_places-next c.args.partitions c.args.self.now.groups c.args.order.now c.loop-at.at c.partition_of-chunk.result c.loop-at.at c.loop-at.places.items c.push.new.self.items (omega arith)
    c.loop-at.invariant (c.partition_of-chunk.ensures ∙ ap (λ (k : List ℕ). fold_bytes k % c.args.partitions) c.key.ensures) refl c.in_ok-push.ensures.items
