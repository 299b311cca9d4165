use Rattle.std.proofs.Common.{◌≡◌, map, pos, vec_len}
use Rattle.std.specs.List.{range_with_len}
use Rattle.pipe_columns.specs.declared.any_value.AnyValue.TheVariants as av
use Rattle.pipe_columns.specs.declared.data_type.DataType.TheVariants as dt
use Rattle.pipe_columns.specs.Frame.{AllFit}
use Rattle.tool_made.specs.Made.{made_value}
use Rattle.tool_made.proofs.columns.values.Given as goal

-- the first of them
abbrev pub invariant-loop-i : goal.invariant-loop-i
invariant-loop-i l =
    (l.values.items ≡ map (λ i. av.Int (pos (made_value i))) (range_with_len l.fn.first l.i))
    × AllFit dt.Int64 l.values.items × (vec_len l.values ≡ l.i)
