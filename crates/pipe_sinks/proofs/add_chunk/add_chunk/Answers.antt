use Rattle.std.proofs.Common.{◌≡◌, ◌<◌, refl, ap, arith}
use Rattle.pipe_aggs.specs.QueryTrees.{query_tree}
use Rattle.pipe_groups.specs.Shape.{Shape}
use Rattle.pipe_model.specs.Query.{QueryTree}
use Rattle.pipe_sinks.specs.ChunkTaking.{TakesRows}
use Rattle.pipe_keyed.proofs.TookFacts.{rows-typed, took-none}
use Rattle.pipe_sinks.proofs.ChunkFacts.{room-none, took-chunk, took-run}
use Rattle.pipe_sinks.proofs.ChunkRunFacts.{one-run, room-now, row-is, row-key, rows-long, shape-now, sole-now, types-now}
use Rattle.pipe_sinks.proofs.add_chunk.add_chunk.Goals as goal

pub loop-row-init : goal.loop-row-init
loop-row-init c =
    took-none (query_tree c.args.query.now) c.args.chunk.now.chunk_index c.args.chunk.now.frame c.args.table.now

pub insert_lent-requires-clause-types : goal.insert_lent-requires-clause-types
insert_lent-requires-clause-types c =
    let takes : TakesRows c.args.query.now c.args.chunk.now c.in_ok-rows.rows c.args.table.now = record {
      rows_are = rw (← c.requires.index) c.in_ok-rows.ensures.rows;
      typed = c.in_ok-rows.ensures.typed;
      index = omega (arith, c.requires.index, c.ranges.index.fits);
      height = c.requires.height;
      shape = c.requires.shape;
      sole = c.requires.sole;
      few = room-none c.args.table.now.shape c.args.table.now c.args.chunk.now.frame.height c.requires.none c.requires.height;
    } in
    types-now c.args.query.now c.args.chunk.now c.in_ok-rows.rows c.args.table.now c.loop-row.table c.loop-row.row takes c.loop-row.invariant.shape _ c.key_types-types.ensures

pub insert_lent-requires-clause-sole : goal.insert_lent-requires-clause-sole
insert_lent-requires-clause-sole c =
    let takes : TakesRows c.args.query.now c.args.chunk.now c.in_ok-rows.rows c.args.table.now = record {
      rows_are = rw (← c.requires.index) c.in_ok-rows.ensures.rows;
      typed = c.in_ok-rows.ensures.typed;
      index = omega (arith, c.requires.index, c.ranges.index.fits);
      height = c.requires.height;
      shape = c.requires.shape;
      sole = c.requires.sole;
      few = room-none c.args.table.now.shape c.args.table.now c.args.chunk.now.frame.height c.requires.none c.requires.height;
    } in
    sole-now c.args.query.now c.args.chunk.now c.in_ok-rows.rows c.args.table.now c.loop-row.table c.loop-row.row takes c.loop-row.invariant.shape

pub insert_lent-requires-clause-there : goal.insert_lent-requires-clause-there
insert_lent-requires-clause-there c =
    let takes : TakesRows c.args.query.now c.args.chunk.now c.in_ok-rows.rows c.args.table.now = record {
      rows_are = rw (← c.requires.index) c.in_ok-rows.ensures.rows;
      typed = c.in_ok-rows.ensures.typed;
      index = omega (arith, c.requires.index, c.ranges.index.fits);
      height = c.requires.height;
      shape = c.requires.shape;
      sole = c.requires.sole;
      few = room-none c.args.table.now.shape c.args.table.now c.args.chunk.now.frame.height c.requires.none c.requires.height;
    } in
    let lt : c.loop-row.row < c.args.chunk.now.frame.height = omega (arith, c.height-height.ensures.height, c.loop-row-test.true) in
    omega (arith, lt, rows-long c.args.query.now c.args.chunk.now c.in_ok-rows.rows c.args.table.now c.loop-row.table c.loop-row.row takes c.loop-row.invariant.shape)

pub insert_lent-requires-clause-number : goal.insert_lent-requires-clause-number
insert_lent-requires-clause-number c =
    let takes : TakesRows c.args.query.now c.args.chunk.now c.in_ok-rows.rows c.args.table.now = record {
      rows_are = rw (← c.requires.index) c.in_ok-rows.ensures.rows;
      typed = c.in_ok-rows.ensures.typed;
      index = omega (arith, c.requires.index, c.ranges.index.fits);
      height = c.requires.height;
      shape = c.requires.shape;
      sole = c.requires.sole;
      few = room-none c.args.table.now.shape c.args.table.now c.args.chunk.now.frame.height c.requires.none c.requires.height;
    } in
    let lt : c.loop-row.row < c.args.chunk.now.frame.height = omega (arith, c.height-height.ensures.height, c.loop-row-test.true) in
    omega (arith, lt, c.requires.height)

pub insert_lent-requires-clause-key : goal.insert_lent-requires-clause-key
insert_lent-requires-clause-key c =
    let takes : TakesRows c.args.query.now c.args.chunk.now c.in_ok-rows.rows c.args.table.now = record {
      rows_are = rw (← c.requires.index) c.in_ok-rows.ensures.rows;
      typed = c.in_ok-rows.ensures.typed;
      index = omega (arith, c.requires.index, c.ranges.index.fits);
      height = c.requires.height;
      shape = c.requires.shape;
      sole = c.requires.sole;
      few = room-none c.args.table.now.shape c.args.table.now c.args.chunk.now.frame.height c.requires.none c.requires.height;
    } in
    let lt : c.loop-row.row < c.args.chunk.now.frame.height = omega (arith, c.height-height.ensures.height, c.loop-row-test.true) in
    row-key c.args.query.now c.args.chunk.now c.in_ok-rows.rows c.args.table.now c.loop-row.table c.loop-row.row takes c.loop-row.invariant.shape lt

pub insert_lent-requires-clause-typed : goal.insert_lent-requires-clause-typed
insert_lent-requires-clause-typed c =
    let takes : TakesRows c.args.query.now c.args.chunk.now c.in_ok-rows.rows c.args.table.now = record {
      rows_are = rw (← c.requires.index) c.in_ok-rows.ensures.rows;
      typed = c.in_ok-rows.ensures.typed;
      index = omega (arith, c.requires.index, c.ranges.index.fits);
      height = c.requires.height;
      shape = c.requires.shape;
      sole = c.requires.sole;
      few = room-none c.args.table.now.shape c.args.table.now c.args.chunk.now.frame.height c.requires.none c.requires.height;
    } in
    let lt : c.loop-row.row < c.args.chunk.now.frame.height = omega (arith, c.height-height.ensures.height, c.loop-row-test.true) in
    row-is c.args.query.now c.args.chunk.now c.in_ok-rows.rows c.args.table.now c.loop-row.table c.loop-row.row takes c.loop-row.invariant.shape lt

pub insert_lent-requires-clause-few : goal.insert_lent-requires-clause-few
insert_lent-requires-clause-few c =
    let takes : TakesRows c.args.query.now c.args.chunk.now c.in_ok-rows.rows c.args.table.now = record {
      rows_are = rw (← c.requires.index) c.in_ok-rows.ensures.rows;
      typed = c.in_ok-rows.ensures.typed;
      index = omega (arith, c.requires.index, c.ranges.index.fits);
      height = c.requires.height;
      shape = c.requires.shape;
      sole = c.requires.sole;
      few = room-none c.args.table.now.shape c.args.table.now c.args.chunk.now.frame.height c.requires.none c.requires.height;
    } in
    let lt : c.loop-row.row < c.args.chunk.now.frame.height = omega (arith, c.height-height.ensures.height, c.loop-row-test.true) in
    room-now c.args.query.now c.args.chunk.now c.in_ok-rows.rows c.args.table.now c.loop-row.table c.loop-row.row takes c.loop-row.invariant.shape c.loop-row.invariant 1 (omega (arith, lt))

pub loop-row-preserved : goal.loop-row-preserved
loop-row-preserved c =
    let takes : TakesRows c.args.query.now c.args.chunk.now c.in_ok-rows.rows c.args.table.now = record {
      rows_are = rw (← c.requires.index) c.in_ok-rows.ensures.rows;
      typed = c.in_ok-rows.ensures.typed;
      index = omega (arith, c.requires.index, c.ranges.index.fits);
      height = c.requires.height;
      shape = c.requires.shape;
      sole = c.requires.sole;
      few = room-none c.args.table.now.shape c.args.table.now c.args.chunk.now.frame.height c.requires.none c.requires.height;
    } in
    let lt : c.loop-row.row < c.args.chunk.now.frame.height = omega (arith, c.height-height.ensures.height, c.loop-row-test.true) in
    let q : QueryTree = query_tree c.args.query.now in
    let n = c.loop-row.row in
    let rows = c.in_ok-rows.rows in
    let one = one-run q rows n c.loop-row.table.shape.key_types (ap (λ (s : Shape). s.key_types) (shape-now c.args.query.now c.args.chunk.now c.in_ok-rows.rows c.args.table.now c.loop-row.table c.loop-row.row takes c.loop-row.invariant.shape)) (omega (arith, lt, rows-long c.args.query.now c.args.chunk.now c.in_ok-rows.rows c.args.table.now c.loop-row.table c.loop-row.row takes c.loop-row.invariant.shape)) in
    took-run q c.args.chunk.now.chunk_index c.args.chunk.now.frame n 1 c.args.table.now c.loop-row.table c.insert_lent.new.self rows _ c.loop-row.invariant takes.rows_are (omega (arith, lt))
    one c.insert_lent.ensures.shape c.in_ok-insert_lent.ensures.holds

pub returns-clause-holds : goal.returns-clause-holds
returns-clause-holds c =
    let takes : TakesRows c.args.query.now c.args.chunk.now c.in_ok-rows.rows c.args.table.now = record {
      rows_are = rw (← c.requires.index) c.in_ok-rows.ensures.rows;
      typed = c.in_ok-rows.ensures.typed;
      index = omega (arith, c.requires.index, c.ranges.index.fits);
      height = c.requires.height;
      shape = c.requires.shape;
      sole = c.requires.sole;
      few = room-none c.args.table.now.shape c.args.table.now c.args.chunk.now.frame.height c.requires.none c.requires.height;
    } in
    let q : QueryTree = query_tree c.args.query.now in
    let all : c.loop-row.row ≡ c.args.chunk.now.frame.height = omega (arith, c.height-height.ensures.height, c.loop-row-test.false, c.loop-row.auto.row-end) in
    let typed = rows-typed q c.args.chunk.now.chunk_index c.args.chunk.now.frame c.loop-row.row c.in_ok-rows.rows takes.rows_are takes.typed takes.index takes.height (omega (arith, all)) in
    took-chunk q c.args.chunk.now c.args.chunk.now.chunk_index c.loop-row.row c.args.table.now c.loop-row.table refl all c.requires.none c.requires.shape c.loop-row.invariant typed
