use Rattle.std.proofs.Common.{◌∙◌, ◌≤◌, length, arith}
use Rattle.pipe_columns.proofs.FrameFacts.{changed_all}
use Rattle.pipe_kinds.specs.Stored.{emptied_at}
use Rattle.pipe_kinds.proofs.JoinFacts.{as-many, turn-alike, turn-emptied, turn-few, turn-fresh, turn-from, turn-joined, turn-within}
use Rattle.pipe_kinds.proofs.columns.join_all.Goals as goal

pub join-requires-clause-within : goal.join-requires-clause-within
join-requires-clause-within c =
    turn-within c.args.group c.args.from c.args.columns.now c.args.others.now c.requires.within c.requires.from c.requires.fresh c.requires.joinable c.loop-j.j c.loop-j-test.true
    c.loop-j.columns c.loop-j.others c.index-columns-j.result c.index-others-j.result c.loop-j.invariant.columns c.loop-j.invariant.others

pub join-requires-clause-from : goal.join-requires-clause-from
join-requires-clause-from c =
    turn-from c.args.group c.args.from c.args.columns.now c.args.others.now c.requires.within c.requires.from c.requires.fresh c.requires.joinable c.loop-j.j c.loop-j-test.true
    c.loop-j.columns c.loop-j.others c.index-columns-j.result c.index-others-j.result c.loop-j.invariant.columns c.loop-j.invariant.others

pub join-requires-clause-fresh : goal.join-requires-clause-fresh
join-requires-clause-fresh c =
    turn-fresh c.args.group c.args.from c.args.columns.now c.args.others.now c.requires.within c.requires.from c.requires.fresh c.requires.joinable c.loop-j.j c.loop-j-test.true
    c.loop-j.columns c.loop-j.others c.index-columns-j.result c.index-others-j.result c.loop-j.invariant.columns c.loop-j.invariant.others

pub join-requires-clause-alike : goal.join-requires-clause-alike
join-requires-clause-alike c =
    turn-alike c.args.group c.args.from c.args.columns.now c.args.others.now c.requires.within c.requires.from c.requires.fresh c.requires.joinable c.loop-j.j c.loop-j-test.true
    c.loop-j.columns c.loop-j.others c.index-columns-j.result c.index-others-j.result c.loop-j.invariant.columns c.loop-j.invariant.others

pub join-requires-clause-few : goal.join-requires-clause-few
join-requires-clause-few c =
    turn-few c.args.group c.args.from c.args.columns.now c.args.others.now c.requires.within c.requires.from c.requires.fresh c.requires.joinable c.loop-j.j c.loop-j-test.true
    c.loop-j.columns c.loop-j.others c.index-columns-j.result c.index-others-j.result c.loop-j.invariant.columns c.loop-j.invariant.others

pub loop-j-preserved : goal.loop-j-preserved
loop-j-preserved c = record {
  columns = turn-joined c.args.group c.args.from c.args.columns.now c.args.others.now c.requires.within c.requires.from c.requires.fresh c.requires.joinable c.loop-j.j c.loop-j-test.true
      c.loop-j.columns c.loop-j.others c.index-columns-j.result c.index-others-j.result c.loop-j.invariant.columns c.loop-j.invariant.others
      c.join.new.self c.join.ensures.states;
  others = turn-emptied c.args.group c.args.from c.args.columns.now c.args.others.now c.requires.within c.requires.from c.requires.fresh c.requires.joinable c.loop-j.j c.loop-j-test.true
      c.loop-j.columns c.loop-j.others c.index-columns-j.result c.index-others-j.result c.loop-j.invariant.columns c.loop-j.invariant.others
      c.join.new.other c.join.ensures.others;
}

pub returns-clause-others : goal.returns-clause-others
returns-clause-others c =
    let all : length c.args.others.now ≤ c.loop-j.j = omega (arith, as-many c.args.others.now c.args.columns.now c.requires.fresh, c.loop-j-test.false) in
    c.loop-j.invariant.others ∙ changed_all (emptied_at c.args.from) c.loop-j.j c.args.others.now all
