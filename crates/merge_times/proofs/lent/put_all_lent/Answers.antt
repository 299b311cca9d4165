use Rattle.std.proofs.Common.{◌+◌, length, arith}
use Rattle.pipe_keyed.specs.Tables.{Table}
use Rattle.pipe_tables.proofs.FewerFacts.{fewer, took-at_most, took-more}
use Rattle.merge_times.proofs.lent.put_all_lent.Goals as goal

pub put_lent-requires-clause-few : goal.put_lent-requires-clause-few
put_lent-requires-clause-few c =
    let old : Table = c.args.table.now in
    c.loop-row.invariant.1 1 (fewer old.shape old.groups (length c.args.rows.now) (1 + c.loop-row.row) (omega (arith, c.loop-row-test.true, c.len-row-end.ensures)) c.requires.few)

pub loop-row-preserved : goal.loop-row-preserved
loop-row-preserved c =
    let e = c.in_ok-put_lent.ensures in
    took-more c.args.table.now c.loop-row.table c.put_lent.new.table c.loop-row.row 1 c.loop-row.invariant (e.shape, e.few)

pub returns-clause-few : goal.returns-clause-few
returns-clause-few c =
    let n = c.loop-row.row in
    (took-at_most c.args.table.now c.loop-row.table n (length c.args.rows.now) (omega (arith, c.len-row-end.ensures)) c.loop-row.invariant).1
