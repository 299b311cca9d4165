use Rattle.std.proofs.Common.{◌≡◌, ◌∙◌, ◌<◌, List, length, sym, ap, subst, arith}
use Rattle.std.proofs.lemmas.Option.{unwrap_or-slice_get}
use Rattle.std.proofs.lemmas.List.FromFn.{length-map-range_with_len}
use Rattle.pipe_columns.specs.Frame.{FrameData}
use Rattle.pipe_columns.specs.Row.{Row}
use Rattle.pipe_aggs.specs.QueryTrees.{query_tree}
use Rattle.pipe_model.specs.Output.{key_types}
use Rattle.pipe_model.specs.Query.{QueryTree}
use Rattle.pipe_model.specs.Rows.{row_of}
use Rattle.pipe_inputs.specs.ChunkRows.{no_row, row_at}
use Rattle.pipe_inputs.specs.RowTypes.{IsRowOf}
use Rattle.pipe_inputs.proofs.CellFacts.{row_at-chunk}
use Rattle.pipe_spill.specs.SpillRow.{spilled}
use Rattle.pipe_groups.specs.Shape.{Shape}
use Rattle.pipe_keyed.proofs.TookFacts.{room-for, row-typed, rows-typed}
use Rattle.pipe_tables.proofs.TakenFacts.{took-row}
use Rattle.pipe_tables.proofs.query_groups.add_chunk.Goals as goal

pub encode_row-requires-clause-there : goal.encode_row-requires-clause-there
encode_row-requires-clause-there c =
    let rows = ap (λ (rs : List Row). length rs) c.in_ok-rows.ensures.rows in
    let all = length-map-range_with_len (λ n. row_of (query_tree c.args.query.now) c.args.index c.args.chunk.now.frame n) 0 c.args.chunk.now.frame.height in
    omega (arith, rows, all, c.height-height.ensures.height, c.loop-row-test.true)

pub insert_lent-requires-clause-there : goal.insert_lent-requires-clause-there
insert_lent-requires-clause-there c =
    let rows = ap (λ (rs : List Row). length rs) c.in_ok-rows.ensures.rows in
    let all = length-map-range_with_len (λ n. row_of (query_tree c.args.query.now) c.args.index c.args.chunk.now.frame n) 0 c.args.chunk.now.frame.height in
    omega (arith, rows, all, c.height-height.ensures.height, c.loop-row-test.true)

pub encode_row-requires-clause-typed : goal.encode_row-requires-clause-typed
encode_row-requires-clause-typed c =
    let q : QueryTree = query_tree c.args.query.now in
    let n = c.loop-row.row in
    let typed : IsRowOf q (row_at c.in_ok-rows.rows n) =
    subst (IsRowOf q) (sym (unwrap_or-slice_get c.in_ok-rows.rows n no_row)) (c.in_ok-rows.ensures.typed n no_row (encode_row-requires-clause-there c)) in
    rw c.key_types-types.ensures typed.key.fit

pub insert_lent-requires-clause-typed : goal.insert_lent-requires-clause-typed
insert_lent-requires-clause-typed c =
    let q : QueryTree = query_tree c.args.query.now in
    let frame : FrameData = c.args.chunk.now.frame in
    let n = c.loop-row.row in
    let lt : n < frame.height = omega (arith, c.height-height.ensures.height, c.loop-row-test.true) in
    let read : row_at c.in_ok-rows.rows n ≡ row_of q c.args.index frame n =
    ap (λ (rs : List Row). row_at rs n) c.in_ok-rows.ensures.rows ∙ row_at-chunk q c.args.index frame n lt in
    let typed = row-typed q c.args.index frame n c.in_ok-rows.rows c.in_ok-rows.ensures.rows c.in_ok-rows.ensures.typed (omega (arith, c.ranges.index.fits)) c.requires.height lt in
    rw (c.loop-row.invariant.0.shape ∙ c.requires.shape, read) typed

pub insert_lent-requires-clause-few : goal.insert_lent-requires-clause-few
insert_lent-requires-clause-few c =
    let q : QueryTree = query_tree c.args.query.now in
    let frame : FrameData = c.args.chunk.now.frame in
    let n = c.loop-row.row in
    let lt : n < frame.height = omega (arith, c.height-height.ensures.height, c.loop-row-test.true) in
    let typed = rows-typed q c.args.index frame n c.in_ok-rows.rows c.in_ok-rows.ensures.rows c.in_ok-rows.ensures.typed (omega (arith, c.ranges.index.fits)) c.requires.height (omega (arith, lt)) in
    room-for q c.args.index frame n 1 c.args.table.now c.loop-row.table c.loop-row.invariant.0 c.requires.shape c.requires.few typed (omega (arith, lt))

pub loop-row-preserved : goal.loop-row-preserved
loop-row-preserved c =
    let q : QueryTree = query_tree c.args.query.now in
    let frame : FrameData = c.args.chunk.now.frame in
    let n = c.loop-row.row in
    let lt : n < frame.height = omega (arith, c.height-height.ensures.height, c.loop-row-test.true) in
    let read : row_at c.in_ok-rows.rows n ≡ row_of q c.args.index frame n =
    ap (λ (rs : List Row). row_at rs n) c.in_ok-rows.ensures.rows ∙ row_at-chunk q c.args.index frame n lt in
    let shape = c.loop-row.invariant.0.shape ∙ c.requires.shape in
    let row : spilled c.loop-row.table.shape.key_types (row_at c.in_ok-rows.rows n) ≡ spilled (key_types q) (row_of q c.args.index frame n) =
    ap (λ (s : Shape). spilled s.key_types (row_at c.in_ok-rows.rows n)) shape ∙ ap (spilled (key_types q)) read in
    let done = c.insert_lent.ensures.done c.in-Done.is in (
      took-row q c.args.index frame n c.args.table.now c.loop-row.table c.insert_lent.new.self
          (spilled c.loop-row.table.shape.key_types (row_at c.in_ok-rows.rows n)) c.loop-row.invariant.0 row done.1 (c.insert_lent.ensures.holds c.in-Done.is),
      done.2 ∙ c.loop-row.invariant.1,
    )

pub returns-clause-typed : goal.returns-clause-typed
returns-clause-typed c =
    let q : QueryTree = query_tree c.args.query.now in
    let frame : FrameData = c.args.chunk.now.frame in
    let typed = rows-typed q c.args.index frame frame.height c.in_ok-rows.rows c.in_ok-rows.ensures.rows c.in_ok-rows.ensures.typed (omega (arith, c.ranges.index.fits)) c.requires.height (omega arith) in
    rw c.requires.shape typed
