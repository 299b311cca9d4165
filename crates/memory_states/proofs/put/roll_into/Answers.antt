use Rattle.memory_states.specs.Calls.{roll_asked, state_files}
use Rattle.memory_states.proofs.put.roll_into.Goals as goal

pub returns : goal.returns
returns c = record {
  given =
      c.put_ended.ensures.given (roll_asked c.args.query.now c.args.keys.now c.args.lengths.now c.args.states.now)
      (state_files c.args.lengths.now c.args.states.now) c.roll.ensures.text c.roll.ensures.fault;
}
