use Rattle.std.proofs.Common.{rules, ◌≡◌, length}
use Rattle.pipe_states.proofs.PlainResults.{plain_back}
use Rattle.pipe_states.proofs.results.results_of.Goals as goal

pub returns-then-as_slice-functions-clause-restored : goal.returns-then-as_slice-functions-clause-restored
returns-then-as_slice-functions-clause-restored c =
    let long : length c.args.values ≡ length c.args.functions.now = search rules in
    plain_back c.args.functions.now c.args.values c.requires long
