use Rattle.std.proofs.Common.{◌<◌, arith, length}
use Rattle.std.proofs.lemmas.Grind.{common_steps}
use Rattle.pipe_asked.proofs.Asking.{cause-later, cause-one}
use Rattle.pipe_asked.proofs.by_place.ask_rest.Goals as goal

pub returns-in-Err-clause-cause : goal.returns-in-Err-clause-cause
returns-in-Err-clause-cause g c =
    let left : c.parts.asked.given < length c.parts.asked.partitions = grind (arith, common_steps) in
    cause-later c.args.asked.now c.parts.asked c.next_placed.new.self c.in-Err.error c.parts.invariant.0.kept c.parts.invariant.1
    (cause-one c.parts.asked c.next_placed.new.self c.in-Err.error c.are_given.ensures.source left c.in-Err.ensures.refused c.in-Err.ensures.cause)
