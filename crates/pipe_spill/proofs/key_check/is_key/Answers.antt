-- A value more is passed over, or none begins where one should.
use Rattle.std.proofs.Common.{rules, ◌≡◌, List, ℕ, length, get_or, subst}
use Rattle.std.proofs.lemmas.Bool.{false≢true}
use Rattle.pipe_columns.specs.declared.data_type.DataType.TheVariants as dt
use Rattle.pipe_spill.specs.KeyTypes.{BeginsNoValue}
use Rattle.pipe_spill.specs.Reading.{BeginsValue}
use Rattle.pipe_spill.proofs.ValuesRead.{IsKeyTo, key_decided, key_more, no_code, no_key, no_tuple}
use Rattle.pipe_spill.proofs.key_check.is_key.Goals as goal

pub returns-in-None : goal.returns-in-None
returns-in-None c =
    let types = c.args.types.now in
    let key : List ℕ = c.args.key.now in
    let rest : List ℕ = c.loop-dtype.rest.now in
    let i = c.loop-dtype.dtype-index in
    let none : BeginsNoValue (get_or types i dt.Boolean) rest = search rules in
    let no = no_tuple types key c.loop-dtype.invariant.values rest i dt.Boolean c.loop-dtype.invariant.read c.loop-dtype-test.true none in
    (λ t. absurd (false≢true t), λ k. absurd (no_key types key (no_code types key no) k))

pub loop-dtype-preserved : goal.loop-dtype-preserved
loop-dtype-preserved c =
    let types = c.args.types.now in
    let i = c.loop-dtype.dtype-index in
    let after : List ℕ = c.in-Some.after.now in
    let more : BeginsValue (get_or types i dt.Boolean) c.loop-dtype.rest.now after = c.in-Some.ensures.some in
    key_more types c.args.key.now c.loop-dtype.rest.now after i dt.Boolean c.loop-dtype.invariant c.loop-dtype-test.true more

pub returns : goal.returns
returns c =
    let types = c.args.types.now in
    let key : List ℕ = c.args.key.now in
    let rest : List ℕ = c.loop-dtype.rest.now in
    let at_end : c.loop-dtype.dtype-index ≡ length types = search rules in
    key_decided types key rest c.is_empty.result (subst (λ n. IsKeyTo types key rest n) at_end c.loop-dtype.invariant) (search rules)
