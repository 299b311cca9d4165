use Rattle.std.proofs.Common.{rules, subst}
use Rattle.std.specs.List.{All}
use Rattle.pipe_columns.specs.declared.data_chunk.DataChunk.{DataChunk}
use Rattle.pipe_columns.specs.Frame.{FitsSchema, HoldsTypes}
use Rattle.pipe_run.specs.Refusals.{AllHaveFields}
use Rattle.pipe_asked.proofs.Lists.{all-take-more, take-past}
use Rattle.pipe_run.proofs.chunk_check.first_misfit.Goals as goal

pub loop-position-preserved : goal.loop-position-preserved
loop-position-preserved c =
    let chunk = c.index-chunks-position.result in
    let fits : FitsSchema c.args.schema.now chunk.frame = search rules in
    let typed : HoldsTypes chunk.frame = search rules in
    let here = subst (λ x. FitsSchema c.args.schema.now x.frame) c.index-chunks-position.is fits in
    let here_typed = subst (λ x. HoldsTypes x.frame) c.index-chunks-position.is typed in (
      all-take-more (λ (x : DataChunk). FitsSchema c.args.schema.now x.frame) c.loop-position.position c.args.chunks.now chunk c.loop-position-test.true c.loop-position.invariant.0 here,
      all-take-more (λ (x : DataChunk). HoldsTypes x.frame) c.loop-position.position c.args.chunks.now chunk c.loop-position-test.true c.loop-position.invariant.1 here_typed,
    )

pub returns-clause-none : goal.returns-clause-none
returns-clause-none c = subst (AllHaveFields c.args.schema.now) (take-past c.loop-position.position c.args.chunks.now c.loop-position-test.false) c.loop-position.invariant.0

pub returns-clause-typed : goal.returns-clause-typed
returns-clause-typed c = subst (All (λ (x : DataChunk). HoldsTypes x.frame)) (take-past c.loop-position.position c.args.chunks.now c.loop-position-test.false) c.loop-position.invariant.1
