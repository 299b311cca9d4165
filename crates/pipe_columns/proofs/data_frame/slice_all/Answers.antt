use Rattle.std.proofs.Common.{◌∙◌, ◌<◌, ◌≤◌, length, arith}
use Rattle.pipe_columns.specs.Frame.{sliced_column}
use Rattle.pipe_columns.proofs.FrameFacts.{changed_all, changed_step}
use Rattle.pipe_columns.proofs.data_frame.slice_all.Goals as goal

pub loop-i-preserved : goal.loop-i-preserved
loop-i-preserved c =
    let lt : c.loop-i.i < length c.args.columns.now = omega (arith, c.loop-i-test.true) in
    changed_step (sliced_column c.args.offset c.args.len) c.args.columns.now c.loop-i.columns c.loop-i.i c.index-columns-i.result c.slice.new.self lt c.loop-i.invariant c.slice.ensures

pub returns : goal.returns
returns c =
    let all : length c.args.columns.now ≤ c.loop-i.i = omega (arith, c.loop-i-test.false) in
    c.loop-i.invariant ∙ changed_all (sliced_column c.args.offset c.args.len) c.loop-i.i c.args.columns.now all
