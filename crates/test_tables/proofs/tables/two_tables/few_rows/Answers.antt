use Rattle.std.proofs.Common.{◌≡◌, ◌∙◌, ◌<◌, ◌^◌, ℕ, List, length, map, ap, subst, sym, arith}
use Rattle.std.specs.Prelude.{All}
use Rattle.std.proofs.lemmas.List.FromFn.{length-map-range_with_len}
use Rattle.pipe_columns.specs.Frame.{FrameData}
use Rattle.pipe_columns.specs.Row.{Row}
use Rattle.pipe_aggs.specs.CheckedQuery.{input_types}
use Rattle.pipe_aggs.specs.QueryTrees.{query_tree}
use Rattle.pipe_model.specs.Output.{key_types}
use Rattle.pipe_model.specs.Query.{QueryTree}
use Rattle.pipe_model.specs.Rows.{chunk_rows, row_of}
use Rattle.pipe_inputs.specs.RowTypes.{IsRowOf}
use Rattle.pipe_spill.specs.SpillRow.{AreRows, spilled}
use Rattle.pipe_spill.specs.declared.spill_row.SpillRow.{SpillRow}
use Rattle.pipe_spill.proofs.SpilledRows.{spilled_are_rows}
use Rattle.pipe_tables.proofs.ChunkValues.{chunk-values}
use Rattle.test_tables.proofs.tables.two_tables.few_rows.Goals as goal

-- how many rows a chunk has
height : (q : QueryTree) (i : ℕ) (frame : FrameData) (rows : List Row) → rows ≡ chunk_rows q i frame → length rows ≡ frame.height
height q i frame rows e = ap (λ (rs : List Row). length rs) e ∙ length-map-range_with_len (λ n. row_of q i frame n) 0 frame.height

-- the rows of a chunk, of their own, are rows of its query
are-rows : (q : QueryTree) (i : ℕ) (frame : FrameData) (rows : List Row) (owned : List SpillRow) → rows ≡ chunk_rows q i frame → All (IsRowOf q) rows → i < 2 ^ 32 → frame.height < 2 ^ 32
    → owned ≡ map (spilled (key_types q)) (chunk_rows q i frame) → AreRows (key_types q) (input_types q) owned
are-rows q i frame rows owned e all few small is =
    subst (AreRows (key_types q) (input_types q)) (ap (map (spilled (key_types q))) e ∙ sym is)
    (spilled_are_rows (key_types q) (input_types q) rows (chunk-values q i frame rows e all few small))

pub rows-requires-clause-placed : goal.rows-requires-clause-placed
rows-requires-clause-placed c =
    let long = height (query_tree c.args.query.now) c.args.chunk.now.chunk_index c.args.chunk.now.frame c.in_ok-seen.seen c.in_ok-seen.ensures.rows in
    omega (arith, long, c.len-count.ensures, c.if-count-gt64.false)

pub returns-clause-typed : goal.returns-clause-typed
returns-clause-typed c =
    let long = height (query_tree c.args.query.now) c.args.chunk.now.chunk_index c.args.chunk.now.frame c.in_ok-seen.seen c.in_ok-seen.ensures.rows in
    are-rows (query_tree c.args.query.now) c.args.chunk.now.chunk_index c.args.chunk.now.frame c.in_ok-seen.seen c.in_ok-rows.field-0.items c.in_ok-seen.ensures.rows c.in_ok-seen.ensures.typed
    (omega (arith, c.if-index-ne0.false)) (omega (arith, long, c.len-count.ensures, c.if-count-gt64.false)) (rw c.new-2.ensures at c.in_ok-rows.ensures)
