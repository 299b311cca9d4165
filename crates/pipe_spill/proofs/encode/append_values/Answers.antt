-- As many values as types, and the code of each follows.
use Rattle.std.proofs.Common.{◌≡◌, ◌<◌, ◌∙◌, ap, take, length, get_or, arith, rules, sym, subst, true}
use Rattle.std.proofs.lemmas.Grind.{common_steps}
use Rattle.std.proofs.Math.Seq.{take-length}
use Rattle.std.proofs.lemmas.List.Elements.{All-more}
use Rattle.pipe_columns.specs.declared.data_type.DataType.TheVariants as dt
use Rattle.pipe_columns.specs.AnyValue.{fits, HasUtf8}
use Rattle.std.specs.Prelude.{All}
use Rattle.pipe_spill.proofs.Tuples.{as_long, fits_at, code_at}
use Rattle.pipe_spill.proofs.encode.append_values.Goals as goal

pub bounds-values-i : goal.bounds-values-i
bounds-values-i c = omega (arith, as_long c.args.types.now c.args.values.now c.requires)

pub offset_bounds-values-i : goal.offset_bounds-values-i
offset_bounds-values-i c =
    let b : c.loop-i.i < length c.args.values.now = omega (arith, as_long c.args.types.now c.args.values.now c.requires) in
    search rules

pub append_value-requires : goal.append_value-requires
append_value-requires c =
    let v = c.index-values-i.result in
    subst (λ x. fits x (get_or c.args.types.now c.loop-i.i dt.Boolean) ≡ true) (sym c.index-values-i.is)
    (fits_at c.args.types.now c.args.values.now c.loop-i.i dt.Boolean v c.requires c.loop-i-test.true)

pub loop-i-preserved : goal.loop-i-preserved
loop-i-preserved c =
    let values = c.args.values.now in
    let v = c.index-values-i.result in
    let b : c.loop-i.i < length values = omega (arith, as_long c.args.types.now values c.requires) in
    let e = code_at c.args.types.now values c.loop-i.i dt.Boolean v c.requires c.loop-i-test.true in
    record {
      utf8 = All-more HasUtf8 values c.loop-i.i v b c.loop-i.invariant.utf8 (subst HasUtf8 c.index-values-i.is c.append_value.ensures.value.utf8);
      bytes = grind (arith, common_steps, e, c.loop-i.invariant.bytes);
    }

pub returns-clause-tuple : goal.returns-clause-tuple
returns-clause-tuple c =
    let values = c.args.values.now in
    let end : c.loop-i.i ≡ length values = omega (arith, as_long c.args.types.now values c.requires) in
    let whole : take c.loop-i.i values ≡ values = ap (λ n. take n values) end ∙ take-length values in
    record { of_types = c.requires; utf8 = subst (All HasUtf8) whole c.loop-i.invariant.utf8 }
