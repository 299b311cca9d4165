use Rattle.std.proofs.Common.{arith, ◌≡◌, ◌∙◌, ℕ, true, ap}
use Rattle.std.proofs.lemmas.Grind.{common_steps}
use Rattle.std.proofs.lemmas.List.FromFn.{map-range_with_len_more}
use Rattle.pipe_columns.specs.declared.any_value.AnyValue.TheVariants as av
use Rattle.pipe_columns.specs.declared.data_type.DataType.TheVariants as dt
use Rattle.pipe_columns.specs.Frame.{all_fit}
use Rattle.pipe_exprs.proofs.RowFacts.{is_there, nulls-fit}
use Rattle.pipe_exprs.proofs.len.Len.evaluate.Goals as goal

pub loop-preserved : goal.loop-preserved
loop-preserved c = rw (map-range_with_len_more (λ (row : ℕ). av.Null) 0 c.loop.counter c.loop.counter (omega arith)) (grind (arith, common_steps))

pub unwrap-requires : goal.unwrap-requires
unwrap-requires c =
    let fit : all_fit dt.UInt32 c.loop.values.items ≡ true = ap (all_fit dt.UInt32) c.loop.invariant ∙ nulls-fit dt.UInt32 0 c.loop.counter in
    is_there c.new-2.result (all_fit dt.UInt32 c.loop.values.items) c.new-2.ensures.none fit
