use Rattle.pipe_tables.proofs.SpotFacts.{refused-at, refused-new, taken, taken-with-rows}
use Rattle.pipe_tables.proofs.spot.spot_for.Goals as goal
use Rattle.pipe_tables.proofs.spot.spot_for.Goals.{else-full-via-then-full+else-not-has_rows, else-full-via-else-full}

pub returns-then-not-has_rows : goal.returns-then-not-has_rows
returns-then-not-has_rows c = refused-at c.args.limit c.args.keyed.now.groups c.args.key.now _ c.held.ensures _ c.passes-full.ensures c.in-Some.index c.requires c.in-Some.ensures _ c.has_rows.ensures c.if-full.true c.if-not-has_rows.true

pub returns-else-full : goal.returns-else-full
returns-else-full c = (
  c.in-Some.ensures,
  elim c.else-full.branch [
    | else-full-via-then-full+else-not-has_rows w ↦ taken-with-rows c.args.limit c.args.keyed.now.groups c.args.key.now _ c.held.ensures _ c.passes-full.ensures c.in-Some.index c.requires c.in-Some.ensures _ w.has_rows.ensures w.if-not-has_rows.false
    | else-full-via-else-full w ↦ taken c.args.limit c.args.keyed.now.groups c.args.key.now _ c.held.ensures _ c.passes-full.ensures w.if-full.false
  ],
)

pub returns-then-full-2 : goal.returns-then-full-2
returns-then-full-2 c = refused-new c.args.limit c.args.keyed.now.groups c.args.key.now _ c.held.ensures _ c.passes-full.ensures c.in-None.ensures c.if-full-2.true
