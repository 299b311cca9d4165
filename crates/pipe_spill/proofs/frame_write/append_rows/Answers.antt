-- One row more.
use Rattle.std.proofs.Common.{rules, ◌≡◌, ◌++◌}
use Rattle.pipe_spill.specs.FrameBytes.{row_bytes, rows_bytes}
use Rattle.pipe_spill.proofs.RowBytes.{row_written}
use Rattle.pipe_spill.proofs.frame_write.append_rows.Goals as goal

pub loop-row-preserved : goal.loop-row-preserved
loop-row-preserved c =
    let types = c.args.input_types.now in
    let rows = c.args.rows.now in
    let wrote : c.append_row.new.frame.items ≡ c.loop-row.frame.items ++ row_bytes types c.row-item.result = search rules in
    row_written types rows c.loop-row.row-index c.row-item.result c.loop-row.frame.items c.append_row.new.frame.items (c.args.frame.now.items ++ rows_bytes types rows)
    c.loop-row-test.true c.row-item.is c.loop-row.invariant wrote
