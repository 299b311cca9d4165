-- Buffers are made one by one.
use Rattle.std.proofs.Common.{rules, ◌≡◌, ◌+◌, ◌++◌, ◌∷◌, [], arith, subst, sym}
use Rattle.pipe_local.proofs.MadeBuffers.{AreNone, none-held, none-more}
use Rattle.pipe_local.proofs.waiting_partitions.WaitingPartitions.new.Goals as goal

pub loop-preserved : goal.loop-preserved
loop-preserved c =
    let items : c.push.new.self.items ≡ c.loop.buffers.items ++ c.new.result ∷ [] = search rules in
    subst (AreNone (c.loop.counter + 1)) (sym items) (none-more c.loop.counter c.loop.buffers.items c.new.result c.new.ensures.count c.new.ensures.typed c.loop.invariant)

pub returns-clause-rows : goal.returns-clause-rows
returns-clause-rows c = λ types.
    let all : c.loop.counter ≡ c.args.partitions = omega (arith, c.loop-test.false, c.loop.auto.counter-end) in
    (subst (λ n. AreNone n c.loop.buffers.items) all c.loop.invariant).rows types

pub returns-clause-held : goal.returns-clause-held
returns-clause-held c =
    let all : c.loop.counter ≡ c.args.partitions = omega (arith, c.loop-test.false, c.loop.auto.counter-end) in
    none-held c.args.partitions c.args.buffer_size c.loop.buffers.items c.requires.partitions c.requires.buffer (subst (λ n. AreNone n c.loop.buffers.items) all c.loop.invariant)
