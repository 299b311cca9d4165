use Rattle.std.proofs.Common.{arith, ℕ, ◌≡◌, ◌+◌, ◌-◌, ◌^◌, ◌<◌, ◌∙◌, List, length, map, ap}
use Rattle.std.proofs.lemmas.List.FromFn.{length-map-range_with_len}
use Rattle.pipe_columns.specs.Frame.{FrameData}
use Rattle.pipe_columns.specs.Row.{Row}
use Rattle.pipe_running.specs.declared.function.AggregateFunction.{AggregateFunction}
use Rattle.pipe_aggs.specs.HashAggs.{prototypes}
use Rattle.pipe_model.specs.Query.{QueryTree}
use Rattle.pipe_aggs.specs.QueryTrees.{query_tree}
use Rattle.pipe_model.specs.Rows.{chunk_rows, row_of}
use Rattle.pipe_inputs.specs.ChunkRows.{row_at}
use Rattle.pipe_inputs.proofs.CellFacts.{row_at-chunk}
use Rattle.test_plain.specs.Running.{group_seen, Line, starts, Table, with_row}
use Rattle.test_plain.proofs.ChunkFacts.{with_rows_more}
use Rattle.test_plain.proofs.HoldFacts.{starts-hold, table-weaker, with_row-holds}
use Rattle.test_plain.proofs.InputFacts.{row-taken}
use Rattle.test_plain.proofs.SpotFacts.{with_row-ascending}
use Rattle.test_plain.proofs.table.add_chunk.Goals as goal

-- a row of what was made of a chunk is the query's row
read_as : (q : QueryTree) (i : ℕ) (frame : FrameData) (rows : List Row) (n : ℕ) → n < frame.height → rows ≡ chunk_rows q i frame → row_at rows n ≡ row_of q i frame n
read_as q i frame rows n h e = ap (λ (rs : List Row). row_at rs n) e ∙ row_at-chunk q i frame n h

pub add_row-requires-clause-there : goal.add_row-requires-clause-there
add_row-requires-clause-there c =
    let rows = ap (λ (rs : List Row). length rs) c.in_ok-rows.ensures.rows in
    let all = length-map-range_with_len (λ n. row_of (query_tree c.args.query.now) c.args.index c.args.chunk.now.frame n) 0 c.args.chunk.now.frame.height in
    omega (arith, rows, all, c.height-height.ensures.height, c.loop-row-test.true)

pub add_row-requires-clause-held : goal.add_row-requires-clause-held
add_row-requires-clause-held c =
    let q : QueryTree = query_tree c.args.query.now in
    let height = c.height-height.ensures.height in
    let test = c.loop-row-test.true in
    rw c.prototypes-prototypes.ensures.functions
    (table-weaker (2 ^ 32 - 1 - c.args.chunk.now.frame.height + c.loop-row.row) (2 ^ 32 - 2) (prototypes q) (map group_seen c.loop-row.table.items) (omega (arith, height, test)) c.loop-row.invariant.held)

pub add_row-requires-clause-taken : goal.add_row-requires-clause-taken
add_row-requires-clause-taken c =
    let q : QueryTree = query_tree c.args.query.now in
    let frame : FrameData = c.args.chunk.now.frame in
    let read : row_at c.in_ok-rows.rows c.loop-row.row ≡ row_of q c.args.index frame c.loop-row.row =
    read_as q c.args.index frame c.in_ok-rows.rows c.loop-row.row (omega (arith, c.height-height.ensures.height, c.loop-row-test.true)) c.in_ok-rows.ensures.rows in
    let same = ap (λ (r : Row). r.inputs) read in
    rw (c.prototypes-prototypes.ensures.functions, same) (row-taken q c.args.index frame c.loop-row.row c.prototypes-prototypes.ensures.groupable c.requires.fits c.height-height.ensures.types)

pub loop-row-preserved : goal.loop-row-preserved
loop-row-preserved c =
    let q : QueryTree = query_tree c.args.query.now in
    let frame : FrameData = c.args.chunk.now.frame in
    let i = c.args.index in
    let n = c.loop-row.row in
    let fs : List AggregateFunction = prototypes q in
    let start : Line = starts fs in
    let before : Table = map group_seen c.loop-row.table.items in
    let room = 2 ^ 32 - 1 - frame.height + n in
    let row : Row = row_of q i frame n in
    let read : row_at c.in_ok-rows.rows c.loop-row.row ≡ row_of q c.args.index frame c.loop-row.row =
    read_as q c.args.index frame c.in_ok-rows.rows c.loop-row.row (omega (arith, c.height-height.ensures.height, c.loop-row-test.true)) c.in_ok-rows.ensures.rows in
    let own : Row = row_at c.in_ok-rows.rows n in
    let made : map group_seen c.add_row.new.table.items ≡ with_row (starts c.prototypes-prototypes.result.now) before own = c.in_ok-add_row.ensures in
    let added : map group_seen c.add_row.new.table.items ≡ with_row start before row =
    made ∙ ap (λ (ps : List AggregateFunction). with_row (starts ps) before own) c.prototypes-prototypes.ensures.functions ∙ ap (with_row start before) read in
    record {
      table = added ∙ ap (λ (t : Table). with_row start t row) c.loop-row.invariant.table ∙ with_rows_more q start (map group_seen c.args.table.now.items) i n frame;
      ascending = rw added (with_row-ascending start before row c.loop-row.invariant.ascending);
      held = table-weaker (room + 1) (2 ^ 32 - 1 - frame.height + (n + 1)) fs (map group_seen c.add_row.new.table.items) (omega arith)
          (rw added (with_row-holds room fs start before row (starts-hold room fs) c.loop-row.invariant.held));
    }
