-- No tuple's code is read, or bytes are left behind one.
use Rattle.std.proofs.Common.{rules, ◌≢◌, [], List, ℕ, IsErrOf}
use Rattle.pipe_states.specs.declared.state_error.StateError.TheVariants as fault
use Rattle.pipe_spill.proofs.ValuesRead.{no_code, no_code-left}
use Rattle.pipe_states.proofs.values.read_key.Goals as goal

pub returns-in_err-values-clause-refused : goal.returns-in_err-values-clause-refused
returns-in_err-values-clause-refused c = λ h.
    let again : IsErrOf c.read_values.result fault.NotAState = search rules in
    no_code c.args.types.now c.args.bytes.now (c.read_values.ensures.refused again)

pub returns-else-is_empty-clause-refused : goal.returns-else-is_empty-clause-refused
returns-else-is_empty-clause-refused c = λ h.
    let rest : List ℕ = c.in_ok-values.rest.now in
    let left : rest ≢ [] = search rules in
    no_code-left c.args.types.now c.args.bytes.now c.in_ok-values.values rest
    c.in_ok-values.ensures.tuple c.in_ok-values.ensures.code left
