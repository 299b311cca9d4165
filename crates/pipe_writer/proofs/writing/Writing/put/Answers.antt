use Rattle.std.proofs.Common.{◌≡◌, false, rules}
use Rattle.pipe_writer.proofs.WroteFacts.{wrote-taken}
use Rattle.pipe_writer.proofs.writing.Writing.put.Goals as goal

pub returns-in-Ok-clause-wrote : goal.returns-in-Ok-clause-wrote
returns-in-Ok-clause-wrote g c made maintain morsels came h =
    let e = c.take.ensures in
    let going_on : c.args.self.now.core.ended ≡ false = search rules in
    wrote-taken g.W.SinkWriter made maintain morsels c.args.self.now came c.args.sent h _
    going_on (search rules) (search rules) e.format e.kept.0 e.kept.1 e.tells
    (λ still. e.taken still c.requires) (e.front going_on c.requires) (λ over. e.refused going_on over) e.since
