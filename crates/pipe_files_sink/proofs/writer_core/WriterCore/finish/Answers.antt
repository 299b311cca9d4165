use Rattle.std.proofs.Common.{refl}
use Rattle.pipe_files_sink.proofs.CoreFacts.{stands-front, taken-as, writer-front}
use Rattle.pipe_files_sink.proofs.writer_core.WriterCore.finish.Goals as goal

pub returns-in_err-end-clause-front : goal.returns-in_err-end-clause-front
returns-in_err-end-clause-front g c = rw (← c.self.view_is) (λ chunks since taken.
    let w = g.W.SinkWriter in
    let law = g.met.W.SinkWriter in
    let e = c.in_err-end.ensures in
    writer-front w.stands w.told w.format w.text law.front law.grows c.end.new.self.writer _ _ since e.format
    (e.front chunks since (taken-as _ _ _ chunks since refl taken)))

pub returns-clause-front : goal.returns-clause-front
returns-clause-front g c = rw (← c.self.view_is) (λ chunks since taken.
    let w = g.W.SinkWriter in
    let law = g.met.W.SinkWriter in
    let e = c.in_ok-end.ensures in
    let stands = e.stands chunks since (taken-as _ _ _ chunks since refl taken) in
    writer-front w.stands w.told w.format w.text law.front law.grows c.self-2.inside.joined.writer _ _ since (rw (← c.self-2.view_is) at e.format)
    (stands-front (w.stands c.self-2.inside.joined.writer) _ since (rw (← c.self-2.view_is) at stands)))
