use Rattle.std.proofs.Common.{rules, arith, ◌≡◌, List, ap, get_or, subst, take}
use Rattle.std.specs.Prelude.{All}
use Rattle.std.proofs.lemmas.List.{take_all}
use Rattle.std.proofs.lemmas.List.Elements.{All-more}
use Rattle.std.proofs.lemmas.List.Sums.{sum_by_more}
use Rattle.pipe_columns.specs.declared.data_chunk.DataChunk.{DataChunk}
use Rattle.pipe_columns.specs.Frame.{FitsSchema, HoldsTypes}
use Rattle.pipe_model.specs.Rows.{total_height}
use Rattle.pipe_inputs.proofs.conditions.are_chunks.Goals as goal

pub loop-chunk-preserved : goal.loop-chunk-preserved
loop-chunk-preserved c =
    let chunk : DataChunk = c.chunk-item.result in
    let i = c.loop-chunk.chunk-index in
    let chunks = c.args.chunks.now in
    let inv = c.loop-chunk.invariant in
    let fits : FitsSchema c.args.query.now.schema chunk.frame = search rules in
    let typed : HoldsTypes chunk.frame = c.fits.ensures.types in
    let same : chunk.frame.height ≡ (get_or chunks i chunk).frame.height = ap (λ (x : DataChunk). x.frame.height) c.chunk-item.is in
    record {
      fit = All-more (λ (x : DataChunk). FitsSchema c.args.query.now.schema x.frame) chunks i chunk c.loop-chunk-test.true inv.fit (rw (← c.chunk-item.is) fits);
      typed = All-more (λ (x : DataChunk). HoldsTypes x.frame) chunks i chunk c.loop-chunk-test.true inv.typed (rw (← c.chunk-item.is) typed);
      rows = omega (arith, inv.rows, same, c.height-rows.ensures.height, sum_by_more (λ (x : DataChunk). x.frame.height) chunks i chunk c.loop-chunk-test.true);
      few = omega (arith, inv.few, c.if-height-rows.false, c.height-rows.ensures.height, c.height.ensures.height);
    }

pub returns : goal.returns
returns c =
    let chunks : List DataChunk = c.args.chunks.now in
    let all : take c.loop-chunk.chunk-index chunks ≡ chunks = take_all c.loop-chunk.chunk-index chunks (omega arith) in (
      λ _. record {
        columns = subst (All (λ (x : DataChunk). FitsSchema c.args.query.now.schema x.frame)) all c.loop-chunk.invariant.fit;
        typed = subst (All (λ (x : DataChunk). HoldsTypes x.frame)) all c.loop-chunk.invariant.typed;
        rows = omega (arith, c.loop-chunk.invariant.rows, c.loop-chunk.invariant.few, ap total_height all);
        number = omega arith;
      },
      λ _. search rules,
    )
