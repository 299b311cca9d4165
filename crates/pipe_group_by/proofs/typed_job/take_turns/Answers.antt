use Rattle.std.proofs.Common.{◌∙◌, List, map}
use Rattle.std.proofs.lemmas.Bool.{eq-eqb, ne_eqb}
use Rattle.pipe_columns.specs.declared.data_chunk.DataChunk.{DataChunk}
use Rattle.pipe_group_by.proofs.Turns.{turn-passed, turn-taken, turn-takes}
use Rattle.pipe_group_by.proofs.typed_job.take_turns.Goals as goal
use Rattle.pipe_group_by.proofs.typed_job.take_turns.Goals.{then-chunk-workers+in_ok-take, else-chunk-workers}

pub take-requires-clause-takes : goal.take-requires-clause-takes
take-requires-clause-takes c =
    let before : List DataChunk = map (λ m. m.value) c.args.before.now in
    turn-takes c.args.workers c.args.worker c.args.sink.now before c.args.chunks.now c.loop-number.number c.index-chunks-number.result c.loop-number-test.true c.index-chunks-number.is c.requires.positions c.loop-number.sink c.loop-number.invariant c.requires.asked

pub loop-number-preserved : goal.loop-number-preserved
loop-number-preserved c =
    let before : List DataChunk = map (λ m. m.value) c.args.before.now in
    let n = c.args.workers in
    let w = c.args.worker in
    let at = c.index-chunks-number.result in
    elim c.if-chunk-workers.branch [
      | then-chunk-workers+in_ok-take t ↦
          t.sink-is ∙ turn-taken n w c.args.sink.now before c.args.chunks.now c.loop-number.number at c.loop-number-test.true c.index-chunks-number.is c.requires.positions c.loop-number.sink c.loop-number.invariant _ (eq-eqb _ _ t.if-chunk-workers.true) t.in_ok-take.ensures.ok
      | else-chunk-workers e ↦
          e.sink-is ∙ turn-passed n w c.args.sink.now before c.args.chunks.now c.loop-number.number at c.loop-number-test.true c.index-chunks-number.is c.requires.positions c.loop-number.sink c.loop-number.invariant (ne_eqb _ _ e.if-chunk-workers.false)
    ]
