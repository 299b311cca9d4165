use Rattle.std.proofs.Common.{◌≡◌, ◌∙◌, ◌+◌, ◌<◌, ℕ, List, length, sym, ap, subst, arith}
use Rattle.std.proofs.lemmas.List.{length-map}
use Rattle.pipe_aggs.specs.CheckedQuery.{input_types}
use Rattle.pipe_aggs.specs.QueryTrees.{query_tree}
use Rattle.pipe_columns.specs.declared.data_chunk.DataChunk.{DataChunk}
use Rattle.pipe_columns.specs.Frame.{FrameData}
use Rattle.pipe_columns.specs.Row.{Row}
use Rattle.pipe_groups.specs.Shape.{Shape, shape_of}
use Rattle.pipe_inputs.specs.ChunkRows.{row_at}
use Rattle.pipe_inputs.specs.RowTypes.{IsRowOf}
use Rattle.pipe_keyed.proofs.TookFacts.{row-typed}
use Rattle.pipe_model.specs.Output.{key_types}
use Rattle.pipe_model.specs.Query.{QueryTree}
use Rattle.pipe_saving.specs.Extents.{IsFed}
use Rattle.pipe_saving.specs.Taken.{spilled_from}
use Rattle.pipe_saving.proofs.FedFacts.{fed-next, few-more, few-next, row-is, row-of, rows-count, rows_so_far, taken-more}
use Rattle.pipe_spill.specs.KeyTypes.{AreOfTypes}
use Rattle.pipe_spill.specs.SpillRow.{IsRow, spilled}
use Rattle.pipe_spill.specs.declared.spill_row.SpillRow.{SpillRow}
use Rattle.pipe_saving.proofs.SaveFacts.{marked}
use Rattle.pipe_saving.proofs.saving.feed_chunk.Goals as goal

pub feed_row-requires-clause-there : goal.feed_row-requires-clause-there
feed_row-requires-clause-there c =
    let count = rows-count (query_tree c.args.query.now) _ c.args.chunk.now.frame c.in_ok-rows.rows c.in_ok-rows.ensures.rows in
    omega (arith, count, c.height-height.ensures.height, c.loop-row-test.true)

pub feed_row-requires-clause-types : goal.feed_row-requires-clause-types
feed_row-requires-clause-types c = c.key_types-types.ensures ∙ sym (ap (λ (s : Shape). s.key_types) c.loop-row.invariant.shape)

pub feed_row-requires-clause-tuple : goal.feed_row-requires-clause-tuple
feed_row-requires-clause-tuple c =
    let q : QueryTree = query_tree c.args.query.now in
    let n = c.loop-row.row in
    let own : IsRowOf q (row_at c.in_ok-rows.rows n) = row-of q c.in_ok-rows.rows n c.in_ok-rows.ensures.typed (feed_row-requires-clause-there c) in
    subst (λ (s : Shape). AreOfTypes s.key_types (row_at c.in_ok-rows.rows n).key) (sym c.loop-row.invariant.shape) own.key.fit

pub feed_row-requires-clause-typed : goal.feed_row-requires-clause-typed
feed_row-requires-clause-typed c =
    let q : QueryTree = query_tree c.args.query.now in
    let frame : FrameData = c.args.chunk.now.frame in
    let n = c.loop-row.row in
    let lt : n < frame.height = omega (arith, c.height-height.ensures.height, c.loop-row-test.true) in
    let few = few-more c.args.first (marked c.args.taken.now) c.args.chunk.now c.requires.few in
    let count = length-map c.args.taken.now (λ s. s.value) in
    let read = row-is q _ frame n c.in_ok-rows.rows c.in_ok-rows.ensures.rows lt in
    let typed = row-typed q _ frame n c.in_ok-rows.rows c.in_ok-rows.ensures.rows c.in_ok-rows.ensures.typed (omega (arith, few.1, count)) (omega (arith, few.0)) lt in
    subst (λ (s : Shape). IsRow s.key_types s.input_types (spilled s.key_types (row_at c.in_ok-rows.rows n))) (sym c.loop-row.invariant.shape)
    (subst (λ (r : Row). IsRow (key_types q) (input_types q) (spilled (key_types q) r)) (sym read) typed)

pub feed_row-requires-clause-limit : goal.feed_row-requires-clause-limit
feed_row-requires-clause-limit c = c.loop-row.invariant.limit

pub feed_row-requires-clause-few : goal.feed_row-requires-clause-few
feed_row-requires-clause-few c =
    let lt : c.loop-row.row < c.args.chunk.now.frame.height = omega (arith, c.height-height.ensures.height, c.loop-row-test.true) in
    (few-next (query_tree c.args.query.now) c.args.first (marked c.args.taken.now) c.args.chunk.now _ c.loop-row.row _ _ c.requires.few lt c.loop-row.invariant).0

pub feed_row-requires-clause-counts : goal.feed_row-requires-clause-counts
feed_row-requires-clause-counts c =
    let lt : c.loop-row.row < c.args.chunk.now.frame.height = omega (arith, c.height-height.ensures.height, c.loop-row-test.true) in
    (few-next (query_tree c.args.query.now) c.args.first (marked c.args.taken.now) c.args.chunk.now _ c.loop-row.row _ _ c.requires.few lt c.loop-row.invariant).1

pub loop-row-preserved : goal.loop-row-preserved
loop-row-preserved c =
    let lt : c.loop-row.row < c.args.chunk.now.frame.height = omega (arith, c.height-height.ensures.height, c.loop-row-test.true) in
    fed-next (query_tree c.args.query.now) _ _ c.args.chunk.now.frame c.loop-row.row c.in_ok-rows.rows _ _ _ _ c.in_ok-rows.ensures.rows lt c.in_ok-feed_row.ensures c.loop-row.invariant

pub returns : goal.returns
returns c =
    let q : QueryTree = query_tree c.args.query.now in
    let marks = c.args.taken.now in
    let chunk : DataChunk = c.args.chunk.now in
    let first = c.args.first in
    let before : List SpillRow = spilled_from q first (marked marks) in
    let t = c.loop-row.groups.table in
    let extents = c.loop-row.groups.extents.items in
    let count = length-map marks (λ s. s.value) in
    let at : first + length marks ≡ first + length (marked marks) = omega (arith, count) in
    let whole : c.loop-row.row ≡ chunk.frame.height = omega (arith, c.loop-row-test.false, c.height-height.ensures.height) in
    taken-more q first (marked marks) chunk c.args.groups.now.table t c.args.groups.now.extents.items extents c.requires.before c.requires.fits c.height-height.ensures.types c.requires.few
    (subst (λ (k : ℕ). IsFed (shape_of q) (rows_so_far q before k chunk.frame chunk.frame.height) t extents) at
    (subst (λ (n : ℕ). IsFed (shape_of q) (rows_so_far q before (first + length marks) chunk.frame n) t extents) whole c.loop-row.invariant))
