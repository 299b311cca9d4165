use Rattle.std.proofs.Common.{◌≤◌, ◌∙◌, [], ◌∷◌, arith, length, refl}
use Rattle.pipe_writers.specs.WriteOrder.{rows_of_chunks}
use Rattle.pipe_files_sink.specs.Core.{full_order}
use Rattle.pipe_files_sink.proofs.CoreFacts.{front-full, front-of-more, on-err-then, on-ok-both, taken-full, taken-waits}
use Rattle.pipe_files_sink.proofs.JoinedFacts.{on-err}
use Rattle.pipe_files_sink.proofs.writer_core.WriterCore.take.Goals as goal

pub returns-in_err-push-clause-front : goal.returns-in_err-push-clause-front
returns-in_err-push-clause-front g c = on-err c.from_residual.result (rw (← c.self.view_is) (λ chunks since taken.
    front-of-more _ _ chunks since c.self.invariant.some taken (c.args.chunk ∷ [])))

pub returns-then-len-self-clause-stands : goal.returns-then-len-self-clause-stands
returns-then-len-self-clause-stands g c = rw (← c.self.view_is) (λ chunks since taken.
    taken-waits _ _ chunks since c.self.invariant.some taken _ c.args.chunk c.push.new.self.items c.in_ok-push.ensures.items refl (λ e. c.if-height-eq0.false (c.height.ensures.height ∙ e)) (omega (arith, c.if-len-self.true, c.len.ensures)))

pub returns-clause-stands : goal.returns-clause-stands
returns-clause-stands g c =
    let e = c.write_piece.ensures in
    let full : c.self.inside.morsels ≤ length c.push.new.self.items = omega (arith, c.if-len-self.false, c.len.ensures) in
    on-ok-both c.write_piece.result e.stands e.waiting (λ stands waiting. rw (← c.self.view_is) (λ chunks since taken.
    let rows = rows_of_chunks (full_order chunks c.self.inside.morsels c.self.inside.maintain_order) in
    taken-full _ _ chunks since c.self.invariant.some taken c.args.chunk c.push.new.self.items c.in_ok-push.ensures.items (λ e. c.if-height-eq0.false (c.height.ensures.height ∙ e)) full
    (g.W.SinkWriter.stands c.write_piece.new.self.writer) c.write_piece.new.self e.kept.4 e.kept.1 e.kept.0 e.kept.2 waiting (stands rows since taken.put)))

pub returns-clause-front : goal.returns-clause-front
returns-clause-front g c =
    let e = c.write_piece.ensures in
    let full : c.self.inside.morsels ≤ length c.push.new.self.items = omega (arith, c.if-len-self.false, c.len.ensures) in
    on-err-then c.write_piece.result e.front (λ front. rw (← c.self.view_is) (λ chunks since taken.
    let rows = rows_of_chunks (full_order chunks c.self.inside.morsels c.self.inside.maintain_order) in
    front-full _ _ chunks since c.self.invariant.some taken c.args.chunk c.push.new.self.items c.in_ok-push.ensures.items (λ e. c.if-height-eq0.false (c.height.ensures.height ∙ e)) full
    (g.W.SinkWriter.stands c.write_piece.new.self.writer) (front rows since taken.put)))
