use Rattle.std.proofs.Common.{rules, ◌∷◌, [], List, ℕ, arith, IsErrOf}
use Rattle.pipe_columns.specs.declared.data_type.DataType.{DataType}
use Rattle.pipe_spill.specs.KeyTypes.{BeginsNoValue}
use Rattle.pipe_spill.proofs.ValuesRead.{no_tuple, read_nothing, read_one}
use Rattle.pipe_states.specs.declared.state_error.StateError.TheVariants as fault
use Rattle.pipe_states.proofs.values.read_pair.Goals as goal

pub returns-in_err-other-clause-refused : goal.returns-in_err-other-clause-refused
returns-in_err-other-clause-refused c = λ h.
    let types : List DataType = c.args.first ∷ c.args.second ∷ [] in
    let bytes : List ℕ = c.args.bytes.now in
    let rest : List ℕ = c.in_ok-value.rest.now in
    let again : IsErrOf c.read_one-2.result fault.NotAState = search rules in
    let none : BeginsNoValue c.args.second rest = c.read_one-2.ensures.refused again in
    no_tuple types bytes (c.in_ok-value.value ∷ []) rest 1 c.args.first
    (read_one types bytes [] bytes rest 0 c.args.first c.in_ok-value.value (read_nothing types bytes) (omega arith) c.in_ok-value.ensures.value c.in_ok-value.ensures.code)
    (omega arith) none
