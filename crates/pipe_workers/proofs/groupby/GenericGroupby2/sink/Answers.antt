use Rattle.std.proofs.Common.{arith}
use Rattle.pipe_workers.proofs.Sinking.{sink-begins, sink-ends, sink-few, sink-place}
use Rattle.pipe_workers.proofs.groupby.GenericGroupby2.sink.Goals as goal

pub take_turn-end-requires-clause-turn : goal.take_turn-end-requires-clause-turn
take_turn-end-requires-clause-turn g c =
    let own = c.self.inside in
    sink-begins g.R.Naming.run own.table own.shares own.turns own.closed own.stopped c.args.self.now c.self.view_is
    c.workers-workers.result c.worker.result c.worker.ensures.is c.worker.ensures.in_run c.workers-workers.ensures.is c.args.chunk.now c.requires.chunk c.requires.ready

pub overflow_add-self : goal.overflow_add-self
overflow_add-self g c =
    let own = c.self.inside in
    let few = sink-few g.R.Naming.run own.table own.shares own.turns own.closed own.stopped c.args.self.now c.self.view_is
    c.workers-workers.result c.worker.result c.worker.ensures.is c.worker.ensures.in_run c.workers-workers.ensures.is c.args.chunk.now c.requires.chunk c.requires.ready c.workers-workers.ensures.takes_turns in
    omega (arith, few)

pub returns-in-Ok-clause-ready : goal.returns-in-Ok-clause-ready
returns-in-Ok-clause-ready g c =
    let own = c.self.inside in
    sink-ends g.R.Naming.run own.table own.shares own.turns own.closed own.stopped c.args.self.now c.self.view_is
    c.workers-workers.result c.worker.result c.worker.ensures.is c.worker.ensures.in_run c.workers-workers.ensures.is c.args.chunk.now c.requires.chunk c.requires.ready
    c.take_turn-end.new.table c.take_turn-end.new.shares c.in-Ok.ensures.ok

pub overflow_mul-position : goal.overflow_mul-position
overflow_mul-position g c =
    let own = c.self.inside in
    let place = sink-place g.R.Naming.run own.table own.shares own.turns own.closed own.stopped c.args.self.now c.self.view_is
    c.workers-workers.result c.worker.result c.worker.ensures.is c.worker.ensures.in_run c.workers-workers.ensures.is c.args.chunk.now c.requires.chunk c.requires.ready c.workers-workers.ensures.takes_turns in
    omega (arith, place)

pub overflow_add-position : goal.overflow_add-position
overflow_add-position g c =
    let own = c.self.inside in
    let place = sink-place g.R.Naming.run own.table own.shares own.turns own.closed own.stopped c.args.self.now c.self.view_is
    c.workers-workers.result c.worker.result c.worker.ensures.is c.worker.ensures.in_run c.workers-workers.ensures.is c.args.chunk.now c.requires.chunk c.requires.ready c.workers-workers.ensures.takes_turns in
    omega (arith, place)
