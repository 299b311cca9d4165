use Rattle.std.proofs.Common.{◌≡◌, ◌∙◌, ◌<◌, ◌≤◌, List, length, get_or, ap, arith}
use Rattle.pipe_columns.proofs.FrameFacts.{changed_all, changed_get, changed_step}
use Rattle.pipe_kinds.specs.Columns.{ColumnStates, pushed}
use Rattle.pipe_kinds.proofs.columns.push_all.Goals as goal

pub push_fresh-requires : goal.push_fresh-requires
push_fresh-requires c =
    let j = c.loop-j.j in
    let d = c.index-columns-j.result in
    let lt : j < length c.args.columns.now = omega (arith, c.loop-j-test.true) in
    let here : get_or c.loop-j.columns j d ≡ get_or c.args.columns.now j d =
    ap (λ (ys : List ColumnStates). get_or ys j d) c.loop-j.invariant ∙ changed_get pushed j c.args.columns.now d in
    omega (arith, c.requires j d lt, ap (λ (y : ColumnStates). y.room) here)

pub loop-j-preserved : goal.loop-j-preserved
loop-j-preserved c =
    let lt : c.loop-j.j < length c.args.columns.now = omega (arith, c.loop-j-test.true) in
    changed_step pushed c.args.columns.now c.loop-j.columns c.loop-j.j c.index-columns-j.result c.push_fresh.new.self lt c.loop-j.invariant c.push_fresh.ensures

pub returns : goal.returns
returns c =
    let all : length c.args.columns.now ≤ c.loop-j.j = omega (arith, c.loop-j-test.false) in
    c.loop-j.invariant ∙ changed_all pushed c.loop-j.j c.args.columns.now all
