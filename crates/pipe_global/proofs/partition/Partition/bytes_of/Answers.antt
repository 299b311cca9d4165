use Rattle.std.proofs.Common.{◌≡◌, List, IfOk, subst}
use Rattle.pipe_groups.specs.Shape.{Shape}
use Rattle.pipe_spill.specs.SpillRow.{Payload}
use Rattle.pipe_waiting.specs.Waiting.{AreWaiting, payload_read, Waiting}
use Rattle.pipe_global.proofs.Keeping.{piece-inputs}
use Rattle.pipe_global.proofs.partition.Partition.bytes_of.Goals as goal

pub bytes_of-requires : goal.bytes_of-requires
bytes_of-requires g c =
    piece-inputs g.R.Naming.run c.self.inside.contents c.args.self.now c.args.shares.now c.worker-worker.result c.self.view_is c.worker-worker.ensures.is c.worker-worker.ensures.in_run
    c.self.invariant.0 c.self.invariant.1 c.requires.same c.args.payload.now c.requires.next c.requires.piece

pub returns-clause-typed : goal.returns-clause-typed
returns-clause-typed g c = subst (λ (x : Shape). IfOk c.bytes_of.result (AreWaiting x.input_types)) c.self.invariant.1.shape c.bytes_of.ensures.typed

pub returns-clause-rows : goal.returns-clause-rows
returns-clause-rows g c = subst (λ (x : Shape). IfOk c.bytes_of.result (λ w. payload_read x.input_types w ≡ c.args.payload.now)) c.self.invariant.1.shape c.bytes_of.ensures.rows
