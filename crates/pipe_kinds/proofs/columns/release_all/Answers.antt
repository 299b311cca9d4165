use Rattle.std.proofs.Common.{◌∙◌, ◌<◌, ◌≤◌, length, arith}
use Rattle.pipe_columns.proofs.FrameFacts.{changed_all, changed_step}
use Rattle.pipe_kinds.specs.Columns.{released}
use Rattle.pipe_kinds.proofs.columns.release_all.Goals as goal

pub loop-j-preserved : goal.loop-j-preserved
loop-j-preserved c =
    let lt : c.loop-j.j < length c.args.columns.now = omega (arith, c.loop-j-test.true) in
    changed_step released c.args.columns.now c.loop-j.columns c.loop-j.j c.index-columns-j.result c.release.new.self lt c.loop-j.invariant c.release.ensures

pub returns : goal.returns
returns c =
    let all : length c.args.columns.now ≤ c.loop-j.j = omega (arith, c.loop-j-test.false) in
    c.loop-j.invariant ∙ changed_all released c.loop-j.j c.args.columns.now all
