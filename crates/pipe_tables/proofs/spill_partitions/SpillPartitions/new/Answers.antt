use Rattle.std.proofs.Common.{rules, ◌≡◌, ◌∙◌, ◌++◌, ◌∷◌, [], ap, arith, subst, sym}
use Rattle.pipe_tables.specs.BufferLayout.{rows_of}
use Rattle.pipe_tables.specs.Buffers.{AreBuffers, no_rows}
use Rattle.pipe_tables.proofs.BufferFacts.{no_rows-more, none-waiting}
use Rattle.pipe_tables.proofs.spill_partitions.SpillPartitions.new.Goals as goal

pub loop-preserved : goal.loop-preserved
loop-preserved c =
    let items : c.push.new.self.items ≡ c.loop.buffers.items ++ c.new.result ∷ [] = search rules in
    ap rows_of items ∙ no_rows-more c.loop.buffers.items c.loop.counter c.new.result (search rules) c.loop.invariant

pub invariant_of-result : goal.invariant_of-result
invariant_of-result c =
    let all : c.loop.counter ≡ c.args.partitions = omega (arith, c.loop-test.false, c.loop.auto.counter-end) in
    let rows : rows_of c.loop.buffers.items ≡ no_rows c.args.partitions = c.loop.invariant ∙ ap no_rows all in
    subst (λ rows. AreBuffers (record { size = c.args.buffer_size; rows = rows })) (sym rows) (none-waiting c.args.partitions c.args.buffer_size c.requires.partitions c.requires.buffer)
