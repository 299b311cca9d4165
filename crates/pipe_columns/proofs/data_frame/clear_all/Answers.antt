use Rattle.std.proofs.Common.{◌∙◌, ◌<◌, ◌≤◌, length, arith}
use Rattle.pipe_columns.specs.Frame.{unsorted}
use Rattle.pipe_columns.proofs.FrameFacts.{changed_all, changed_step}
use Rattle.pipe_columns.proofs.data_frame.clear_all.Goals as goal

pub loop-i-preserved : goal.loop-i-preserved
loop-i-preserved c =
    let lt : c.loop-i.i < length c.args.columns.now = omega (arith, c.loop-i-test.true) in
    changed_step unsorted c.args.columns.now c.loop-i.columns c.loop-i.i c.index-columns-i.result c.clear_sorted.new.self lt c.loop-i.invariant c.clear_sorted.ensures

pub returns : goal.returns
returns c =
    let all : length c.args.columns.now ≤ c.loop-i.i = omega (arith, c.loop-i-test.false) in
    c.loop-i.invariant ∙ changed_all unsorted c.loop-i.i c.args.columns.now all
