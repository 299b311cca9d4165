-- One more value is read, or none begins where one should, and past the last type the tuple is whole.
use Rattle.std.proofs.Common.{rules, arith, ◌≡◌, ◌+◌, ◌++◌, List, ℕ, get_or, length, subst, sym}
use Rattle.pipe_columns.specs.Key.{code}
use Rattle.pipe_columns.specs.declared.data_type.DataType.TheVariants as dt
use Rattle.pipe_spill.specs.KeyTypes.{BeginsNoValue, IsTuple}
use Rattle.pipe_spill.proofs.ValuesRead.{IsReadTo, no_tuple, read_nothing, read_one, read_tuple}
use Rattle.pipe_states.proofs.values.read_many.Goals as goal

pub returns-in_err-value-clause-refused : goal.returns-in_err-value-clause-refused
returns-in_err-value-clause-refused c = λ h.
    let types = c.args.types.now in
    let rest : List ℕ = c.loop-dtype.rest.now in
    let i = c.loop-dtype.dtype-index in
    let none : BeginsNoValue (get_or types i dt.Boolean) rest = search rules in
    no_tuple types c.args.bytes.now c.loop-dtype.values.items rest i dt.Boolean c.loop-dtype.invariant c.loop-dtype-test.true none

pub loop-dtype-preserved : goal.loop-dtype-preserved
loop-dtype-preserved c =
    let types = c.args.types.now in
    let after : List ℕ = c.in_ok-value.after.now in
    let i = c.loop-dtype.dtype-index in
    subst (λ xs. IsReadTo types c.args.bytes.now xs after (i + 1)) (sym c.in_ok-push.ensures.items)
    (read_one types c.args.bytes.now c.loop-dtype.values.items c.loop-dtype.rest.now after i dt.Boolean c.in_ok-value.value
    c.loop-dtype.invariant c.loop-dtype-test.true c.in_ok-value.ensures.value c.in_ok-value.ensures.code)

pub loop-dtype-init : goal.loop-dtype-init
loop-dtype-init c =
    subst (λ xs. IsReadTo c.args.types.now c.args.bytes.now xs c.args.bytes.now 0) (sym c.in_ok-values.ensures.items)
    (read_nothing c.args.types.now c.args.bytes.now)

-- past the last type the whole tuple was read
at_end : (c : goal.After-new) → IsTuple c.args.types.now c.new.result × (code c.args.types.now c.new.result ++ c.loop-dtype.rest.now ≡ c.args.bytes.now)
at_end c =
    let types = c.args.types.now in
    let bytes = c.args.bytes.now in
    let rest : List ℕ = c.loop-dtype.rest.now in
    let last : c.loop-dtype.dtype-index ≡ length types = omega arith in
    subst (λ vs. IsTuple types vs × (code types vs ++ rest ≡ bytes)) (sym c.new.ensures)
    (read_tuple types bytes c.loop-dtype.values.items rest
    (subst (λ i. IsReadTo types bytes c.loop-dtype.values.items rest i) last c.loop-dtype.invariant))

pub returns-clause-tuple : goal.returns-clause-tuple
returns-clause-tuple c = (at_end c).0

pub returns-clause-code : goal.returns-clause-code
returns-clause-code c = (at_end c).1
