use Rattle.std.proofs.Common.{◌≡◌, arith}
use Rattle.std.proofs.lemmas.Grind.{common_steps}
use Rattle.pipe_tables.specs.BufferLayout.{rows_of}
use Rattle.pipe_tables.specs.Buffers.{buffer_of, Buffers}
use Rattle.pipe_tables.proofs.BufferFacts.{emptied, left}
use Rattle.pipe_tables.proofs.spill_partitions.SpillPartitions.insert_at.Goals as goal

pub returns-in-Ok-2-clause-taken : goal.returns-in-Ok-2-clause-taken
returns-in-Ok-2-clause-taken c _ =
    let b : Buffers = record { size = c.self.inside.buffer_size; rows = rows_of c.self.inside.buffers.items } in
    let is : c.args.partition ≡ buffer_of c.args.row.key b = grind (arith, common_steps) in
    rw (← c.self.view_is) (emptied c.args.row b c.args.partition (rows_of c.push_at.new.buffers.items) (rows_of c.take_at-rows.new.buffers.items) c.self.invariant is c.in-Ok-2.ensures.ok c.take_at-rows.ensures.emptied (omega (arith, c.in-Ok.ensures.count)))

pub returns-in-Ok-2-clause-payload : goal.returns-in-Ok-2-clause-payload
returns-in-Ok-2-clause-payload c _ =
    let b : Buffers = record { size = c.self.inside.buffer_size; rows = rows_of c.self.inside.buffers.items } in
    let is : c.args.partition ≡ buffer_of c.args.row.key b = grind (arith, common_steps) in
    rw (← c.self.view_is) (left c.args.row b c.args.partition (rows_of c.push_at.new.buffers.items) c.take_at-rows.result.items c.self.invariant is c.in-Ok-2.ensures.ok c.take_at-rows.ensures.taken (omega (arith, c.in-Ok.ensures.count)))
