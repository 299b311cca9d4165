use Rattle.std.proofs.Common.{◌≡◌, ◌∙◌, List, length, ap, arith}
use Rattle.std.proofs.lemmas.List.FromFn.{length-map-range_with_len}
use Rattle.pipe_columns.specs.Frame.{FrameData}
use Rattle.pipe_columns.specs.Row.{Row}
use Rattle.pipe_aggs.specs.QueryTrees.{query_tree}
use Rattle.pipe_model.specs.Query.{QueryTree}
use Rattle.pipe_model.specs.Rows.{chunk_rows, row_of}
use Rattle.pipe_tables.proofs.ChunkValues.{chunk-values}
use Rattle.test_tables.proofs.tables.local.fed.Goals as goal

-- how many rows there are
count : (q : QueryTree) (frame : FrameData) (rows : List Row) → rows ≡ chunk_rows q 0 frame → length rows ≡ frame.height
count q frame rows e = ap (λ (rs : List Row). length rs) e ∙ length-map-range_with_len (λ n. row_of q 0 frame n) 0 frame.height

pub fed_rows-table-requires-clause-typed : goal.fed_rows-table-requires-clause-typed
fed_rows-table-requires-clause-typed c = chunk-values (query_tree c.args.query.now) 0 c.args.chunk.now.frame c.in_ok-rows.rows c.in_ok-rows.ensures.rows c.in_ok-rows.ensures.typed (omega arith) (omega (arith, c.height-height.ensures.height))

pub fed_rows-table-requires-clause-few : goal.fed_rows-table-requires-clause-few
fed_rows-table-requires-clause-few c = omega (arith, count (query_tree c.args.query.now) c.args.chunk.now.frame c.in_ok-rows.rows c.in_ok-rows.ensures.rows, c.height-height.ensures.height)
