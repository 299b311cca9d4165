use Rattle.std.proofs.Common.{◌≡◌, rules}
use Rattle.std.proofs.lemmas.List.Sorted.{All-permutation}
use Rattle.pipe_columns.specs.declared.data_chunk.DataChunk.{DataChunk}
use Rattle.pipe_writers.specs.WriteOrder.{written_piece}
use Rattle.pipe_files_sink.specs.Joined.{IsWritable}
use Rattle.pipe_files_sink.proofs.JoinedFacts.{on-err, put-front}
use Rattle.pipe_files_sink.proofs.writer_core.WriterCore.write_piece.Goals as goal

pub returns-in_err-piece-clause-front : goal.returns-in_err-piece-clause-front
returns-in_err-piece-clause-front g c = on-err c.from_residual.result (λ rows since put.
    put-front (g.W.SinkWriter.stands c.self.inside.joined.writer) c.self.inside.joined.waiting rows since (rw (← c.self.view_is) at put) _)

pub put_all-requires-clause-takes : goal.put_all-requires-clause-takes
put_all-requires-clause-takes g c =
    All-permutation (λ (x : DataChunk). IsWritable (g.W.SinkWriter.fields (g.W.SinkWriter.format c.self.inside.joined.writer)) x.frame) c.self.inside.piece.items c.in_ok-piece.piece.items
    (rw c.replace-piece.ensures.value at c.in_ok-piece.ensures.moved) c.self.invariant.fit

pub returns-in_err-put_all-clause-front : goal.returns-in_err-put_all-clause-front
returns-in_err-put_all-clause-front g c = on-err c.from_residual-in_err-put_all.result (λ rows since put.
    let order : c.in_ok-piece.piece.items ≡ written_piece c.args.self.now.maintain_order c.args.self.now.piece = search rules in
    rw (← order) (c.in_err-put_all.ensures.front rows since (rw (← c.self.view_is) at put)))

pub returns-clause-stands : goal.returns-clause-stands
returns-clause-stands g c rows since put =
    let order : c.in_ok-piece.piece.items ≡ written_piece c.args.self.now.maintain_order c.args.self.now.piece = search rules in
    rw (← order) (c.in_ok-put_all.ensures.stands rows since (rw (← c.self.view_is) at put))
