use Rattle.std.proofs.Common.{◌≡◌, ◌∙◌, ◌<◌, ℕ, List, length, arith, get_or, ap, subst, sym, true, Option, unwrap_or}
use Rattle.std.proofs.lemmas.Grind.{common_steps}
use Rattle.std.proofs.lemmas.Option.{slice_get-get_or}
use Rattle.pipe_columns.specs.declared.any_value.AnyValue.{AnyValue}
use Rattle.pipe_columns.specs.declared.any_value.AnyValue.TheVariants as av
use Rattle.pipe_columns.specs.declared.data_type.DataType.{DataType}
use Rattle.pipe_columns.specs.declared.data_type.DataType.TheVariants as dt
use Rattle.pipe_columns.specs.AnyValue.{fits}
use Rattle.pipe_columns.specs.Frame.{value_at}
use Rattle.pipe_inputs.specs.ChunkRows.{row_at}
use Rattle.pipe_spill.specs.KeyTypes.{AreOfTypes}
use Rattle.pipe_spill.proofs.Tuples.{as_long, fits_at, code_at}
use Rattle.pipe_groups.proofs.row_code.encode_row.Goals as goal

-- the value at a place of a tuple, by whatever stands for none
at-place : (types : List DataType) (key : List AnyValue) (i : ℕ) (v : AnyValue) → AreOfTypes types key → i < length types → v ≡ value_at key i → v ≡ get_or key i v
at-place types key i v typed lt e =
    e ∙ ap (λ (o : Option AnyValue). unwrap_or o av.Null) (slice_get-get_or key i v (omega (arith, as_long types key typed, lt)))

pub append_value-requires : goal.append_value-requires
append_value-requires c =
    let types = c.args.types.now in
    let key = (row_at c.args.rows.now c.args.row).key in
    let v = c.key.result.now in
    subst (λ x. fits x (get_or types c.loop-i.i dt.Boolean) ≡ true) (sym (at-place types key c.loop-i.i v c.requires.typed c.loop-i-test.true c.key.ensures))
    (fits_at types key c.loop-i.i dt.Boolean v c.requires.typed c.loop-i-test.true)

pub loop-i-preserved : goal.loop-i-preserved
loop-i-preserved c =
    let types = c.args.types.now in
    let key = (row_at c.args.rows.now c.args.row).key in
    let v = c.key.result.now in
    let is = at-place types key c.loop-i.i v c.requires.typed c.loop-i-test.true c.key.ensures in
    let e = code_at types key c.loop-i.i dt.Boolean v c.requires.typed c.loop-i-test.true in
    grind (arith, common_steps, e, is, c.loop-i.invariant)
