use Rattle.std.proofs.Common.{◌++◌, List, subst}
use Rattle.pipe_lines.specs.Rows.{Row}
use Rattle.pipe_writers.specs.WriteOrder.{rows_of_chunks, written_piece}
use Rattle.pipe_files_sink.specs.Core.{full_order}
use Rattle.pipe_files_sink.specs.JoinedState.{HasPutFront}
use Rattle.pipe_files_sink.proofs.CoreFacts.{on-ok, order-whole, stands-front}
use Rattle.pipe_files_sink.proofs.JoinedFacts.{on-err}
use Rattle.pipe_files_sink.proofs.writer_core.WriterCore.end.Goals as goal

pub returns-in_err-write_piece-clause-front : goal.returns-in_err-write_piece-clause-front
returns-in_err-write_piece-clause-front g c = on-err c.from_residual.result (λ chunks since taken.
    let core = c.args.self.now in
    subst (λ (rows : List Row). HasPutFront (g.W.SinkWriter.stands c.write_piece.new.self.writer) rows since)
    (order-whole _ core chunks since c.write_piece.ensures.some taken)
    (c.in_err-write_piece.ensures.front (rows_of_chunks (full_order chunks core.morsels core.maintain_order)) since taken.put))

pub returns-clause-stands : goal.returns-clause-stands
returns-clause-stands g c = on-ok c.finish.result (λ chunks since taken.
    let core = c.args.self.now in
    let rows : List Row = rows_of_chunks (full_order chunks core.morsels core.maintain_order) in
    let put = c.in_ok-write_piece.ensures.stands rows since taken.put in
    subst (λ (rs : List Row). g.W.SinkWriter.stands c.finish.new.self.writer rs since)
    (order-whole _ core chunks since c.write_piece.ensures.some taken)
    (c.finish.ensures.stands (rows ++ rows_of_chunks (written_piece core.maintain_order core.piece)) since (rw (← c.self.view_is) at put)))

pub returns-clause-front : goal.returns-clause-front
returns-clause-front g c = on-err c.finish.result (λ chunks since taken.
    let core = c.args.self.now in
    let rows : List Row = rows_of_chunks (full_order chunks core.morsels core.maintain_order) in
    let put = c.in_ok-write_piece.ensures.stands rows since taken.put in
    stands-front (g.W.SinkWriter.stands c.finish.new.self.writer) _ since
    (subst (λ (rs : List Row). g.W.SinkWriter.stands c.finish.new.self.writer rs since)
    (order-whole _ core chunks since c.write_piece.ensures.some taken)
    (c.finish.ensures.stands (rows ++ rows_of_chunks (written_piece core.maintain_order core.piece)) since (rw (← c.self.view_is) at put))))
