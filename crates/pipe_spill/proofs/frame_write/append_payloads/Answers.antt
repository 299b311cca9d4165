-- The rows of one payload more.
use Rattle.std.proofs.Common.{rules, ◌≡◌, ◌++◌}
use Rattle.pipe_spill.specs.FrameBytes.{rows_bytes}
use Rattle.pipe_spill.specs.SpillRow.{joined_rows}
use Rattle.pipe_spill.proofs.RowBytes.{payload_written}
use Rattle.pipe_spill.proofs.frame_write.append_payloads.Goals as goal

pub loop-payload-preserved : goal.loop-payload-preserved
loop-payload-preserved c =
    let types = c.args.input_types.now in
    let payloads = c.args.payloads.now in
    let wrote : c.append_rows.new.frame.items ≡ c.loop-payload.frame.items ++ rows_bytes types c.payload-item.result.rows = search rules in
    payload_written types payloads c.loop-payload.payload-index c.payload-item.result c.loop-payload.frame.items c.append_rows.new.frame.items
    (c.args.frame.now.items ++ rows_bytes types (joined_rows payloads))
    c.loop-payload-test.true c.payload-item.is c.loop-payload.invariant wrote
