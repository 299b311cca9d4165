use Rattle.std.proofs.Common.{rules, ◌≡◌, ◌+◌, ◌<◌, ◌^◌, List, map, arith}
use Rattle.std.specs.List.{All}
use Rattle.std.proofs.lemmas.List.{length-append, length-map}
use Rattle.pipe_aggs.specs.QueryTrees.{query_tree}
use Rattle.pipe_columns.specs.declared.data_chunk.DataChunk.{DataChunk}
use Rattle.pipe_columns.specs.Frame.{HoldsTypes}
use Rattle.pipe_model.specs.Rows.{total_height}
use Rattle.pipe_run.specs.Refusals.{AllHaveFields}
use Rattle.pipe_run.proofs.Feeding.{chunks-more, height-append}
use Rattle.pipe_run.proofs.chunk_check.checked_rows.Goals as goal

pub returns-clause-chunks : goal.returns-clause-chunks
returns-clause-chunks c =
    let taken : List DataChunk = map (λ s. s.value) c.args.taken.now in
    let fit : AllHaveFields c.args.query.now.schema c.args.chunks.now = search rules in
    let typed : All (λ x. HoldsTypes x.frame) c.args.chunks.now = search rules in
    let sum : c.in-Some-rows_with.all ≡ c.args.rows + total_height c.args.chunks.now = search rules in
    let low : c.in-Some-rows_with.all < 2 ^ 32 = search rules in
    chunks-more (query_tree c.args.query.now) taken c.args.chunks.now c.requires.taken fit typed
    (omega (arith, height-append taken c.args.chunks.now, c.requires.rows, sum, low))
    (omega (arith, length-append taken c.args.chunks.now, length-map c.args.taken.now (λ s. s.value), c.if-chunks-taken.false))
