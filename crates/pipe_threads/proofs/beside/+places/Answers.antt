use Rattle.std.proofs.Common.{arith, length}
use Rattle.std.specs.Fork.{AcceptsAt, ChangesAt}
use Rattle.pipe_threads.proofs.PlaceFacts.{accept-first, accept-others, change-both}
use Rattle.pipe_threads.proofs.beside.+places.Goals as goal

pub each_from-first_and_others-requires-clause-others : goal.each_from-first_and_others-requires-clause-others
each_from-first_and_others-requires-clause-others g t c κs within =
    let cut = c.split_at_mut-first in
    accept-others (AcceptsAt g.F.Fn c.args.f.now) c.args.base c.div_ceil-size.result c.args.s.now cut.result.0.now cut.result.1.now cut.ensures.value cut.ensures.front_len c.requires

pub each_from-returns : goal.each_from-returns
each_from-returns g t c =
    let cut = c.split_at_mut-first in
    change-both (ChangesAt g.F.Fn c.args.f.now) c.args.base c.div_ceil-size.result c.args.s.now cut.result.0.now cut.result.1.now c.first_and_others.new.first c.first_and_others.new.others cut.ensures.value cut.ensures.front_len c.first_and_others.ensures.first c.first_and_others.ensures.others
