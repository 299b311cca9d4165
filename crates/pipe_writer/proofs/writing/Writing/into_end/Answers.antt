use Rattle.std.proofs.Common.{refl, rules}
use Rattle.pipe_writer.proofs.WroteFacts.{ended}
use Rattle.pipe_writer.proofs.writing.Writing.into_end.Goals as goal

pub returns : goal.returns
returns g c made maintain morsels came h =
    let e = c.finish.ensures in
    ended g.W.SinkWriter made maintain morsels c.args.self came h c.finish.new.self _ refl (search rules)
    (λ over. e.already over) (λ still none. e.whole still none) (λ still. e.front still) e.tells e.since c.outcome-result.ensures.ok c.outcome-result.ensures.output
