-- No tuple's code is read, or bytes are left behind one.
use Rattle.std.proofs.Common.{rules, ◌≢◌, [], List, ℕ, IsErrOf}
use Rattle.pipe_spill.specs.declared.decode.DecodeError.TheVariants as fault
use Rattle.pipe_spill.proofs.ValuesRead.{no_code, no_code-left}
use Rattle.pipe_spill.proofs.decode.decode_key.Goals as goal

pub returns-in_err-values-clause-not_a_key : goal.returns-in_err-values-clause-not_a_key
returns-in_err-values-clause-not_a_key c = λ h.
    let again : IsErrOf c.read_values.result fault.NotAKey = search rules in
    no_code c.args.types.now c.args.bytes.now (c.read_values.ensures.not_a_key again)

pub returns-else-is_empty-clause-not_a_key : goal.returns-else-is_empty-clause-not_a_key
returns-else-is_empty-clause-not_a_key c = λ h.
    let rest : List ℕ = c.in_ok-values.rest.now in
    let left : rest ≢ [] = search rules in
    no_code-left c.args.types.now c.args.bytes.now c.in_ok-values.values rest
    c.in_ok-values.ensures.tuple c.in_ok-values.ensures.code left
