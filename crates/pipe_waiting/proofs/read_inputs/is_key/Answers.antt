-- A key is a tuple's code behind which nothing is left.
use Rattle.std.proofs.Common.{rules}
use Rattle.pipe_spill.specs.Reading.{BeginsNoTuple}
use Rattle.pipe_waiting.proofs.FrameFacts.{key_tested, no_key_there}
use Rattle.pipe_waiting.proofs.read_inputs.is_key.Goals as goal

pub returns-in-Ok : goal.returns-in-Ok
returns-in-Ok c =
    key_tested c.args.types.now c.args.key.now c.read_inputs.new.values.items c.in-Ok.rest.now c.is_empty.result c.in-Ok.ensures.tuple c.in-Ok.ensures.code c.is_empty.ensures

pub returns-in-Err-NotAKey : goal.returns-in-Err-NotAKey
returns-in-Err-NotAKey c =
    let none : BeginsNoTuple c.args.types.now c.args.key.now = search rules in
    no_key_there c.args.types.now c.args.key.now none
