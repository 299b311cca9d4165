use Rattle.std.proofs.Common.{ap, arith, Err}
use Rattle.std.proofs.lemmas.List.{length-map}
use Rattle.pipe_groups.specs.Columns.{column_of_unfinished, columns_of_unfinished}
use Rattle.pipe_groups.proofs.ReadFacts.{key-begins, key-more, reading-end, reading-start}
use Rattle.pipe_groups.proofs.keys.push_key.Goals as goal

pub loop-at-init : goal.loop-at-init
loop-at-init c = reading-start (columns_of_unfinished c.args.columns.now) c.args.key.now c.requires

pub unreachable-requires : goal.unreachable-requires
unreachable-requires c =
    key-begins (columns_of_unfinished c.args.columns.now) c.args.key.now c.loop-at.at c.loop-at.columns c.loop-at.rest.now c.index-columns-at.result c.loop-at.invariant (omega (arith, c.loop-at-test.true, c.loop-at.auto.columns))
    (c.in-Err-NotAKey.ensures.not_a_key (ap Err c.in-Err-NotAKey.field-0-is))

pub loop-at-preserved : goal.loop-at-preserved
loop-at-preserved c =
    key-more (columns_of_unfinished c.args.columns.now) c.args.key.now c.loop-at.at c.loop-at.columns c.loop-at.rest.now c.index-columns-at.result c.loop-at.invariant (omega (arith, c.loop-at-test.true, c.loop-at.auto.columns))
    c.in-Ok.value c.in-Ok.after.now (columns_of_unfinished c.push_at.new.columns) c.in-Ok.ensures.value c.in-Ok.ensures.code c.in_ok-push_at-in-Ok.ensures

pub returns : goal.returns
returns c =
    reading-end (columns_of_unfinished c.args.columns.now) c.args.key.now c.loop-at.at (columns_of_unfinished c.loop-at.columns) c.loop-at.rest.now c.loop-at.invariant
    (omega (arith, c.loop-at-test.false, c.loop-at.auto, length-map c.args.columns.now column_of_unfinished))
