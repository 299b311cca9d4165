use Rattle.pipe_global.proofs.Finished.{finish-gathered, finish-prepared, ready-prepared}
use Rattle.pipe_global.proofs.contents.Contents.prepare.Goals as goal

pub returns-in-Err-clause-again : goal.returns-in-Err-clause-again
returns-in-Err-clause-again g c = finish-gathered c.args.self.now c.gather.new.self c.args.local.now c.gather.ensures.gathered c.requires

pub returns-clause-again : goal.returns-clause-again
returns-clause-again g c =
    finish-prepared c.args.self.now c.gather.new.self c.take_local.new.self c.args.local.now c.take_local.new.local
    c.gather.ensures.gathered c.in-Ok.ensures.none.0 c.in-Ok.ensures.none.1 c.in_ok-take_local.ensures.ok c.requires

pub returns-clause-ready : goal.returns-clause-ready
returns-clause-ready g c =
    ready-prepared c.args.self.now c.gather.new.self c.take_local.new.self c.args.local.now c.take_local.new.local
    c.gather.ensures.gathered c.in-Ok.ensures.none.0 c.in-Ok.ensures.none.1 c.in_ok-take_local.ensures.ok
