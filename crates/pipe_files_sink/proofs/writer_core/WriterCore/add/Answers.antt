use Rattle.std.proofs.Common.{refl}
use Rattle.pipe_files_sink.proofs.CoreFacts.{front-of-taken, taken-as, writer-front}
use Rattle.pipe_files_sink.proofs.writer_core.WriterCore.add.Goals as goal

pub returns-in_err-take-clause-front : goal.returns-in_err-take-clause-front
returns-in_err-take-clause-front g c = rw (← c.self.view_is) (λ chunks since taken.
    let w = g.W.SinkWriter in
    let law = g.met.W.SinkWriter in
    let e = c.in_err-take.ensures in
    writer-front w.stands w.told w.format w.text law.front law.grows c.take.new.self.writer _ _ since e.format
    (e.front chunks since (taken-as _ _ _ chunks since refl taken)))

pub returns-clause-stands : goal.returns-clause-stands
returns-clause-stands g c = rw (← c.self.view_is) (λ chunks since taken.
    let after = c.in_ok-take.ensures.stands chunks since (taken-as _ _ _ chunks since refl taken) in
    taken-as _ _ _ _ since refl (rw (← c.self-2.view_is) at after))

pub returns-clause-front : goal.returns-clause-front
returns-clause-front g c = rw (← c.self.view_is) (λ chunks since taken.
    let w = g.W.SinkWriter in
    let law = g.met.W.SinkWriter in
    let e = c.in_ok-take.ensures in
    let after = e.stands chunks since (taken-as _ _ _ chunks since refl taken) in
    let front = front-of-taken (w.stands c.take.new.self.writer) c.take.new.self _ since _ _ e.kept.1 e.kept.0 c.self.invariant.some after in
    writer-front w.stands w.told w.format w.text law.front law.grows c.self-2.inside.joined.writer _ _ since (rw (← c.self-2.view_is) at e.format)
    (rw (← c.self-2.view_is) at front))
