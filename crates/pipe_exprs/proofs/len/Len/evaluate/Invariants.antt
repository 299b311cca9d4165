use Rattle.std.proofs.Common.{◌≡◌, map}
use Rattle.std.specs.List.{range_with_len}
use Rattle.pipe_columns.specs.declared.any_value.AnyValue.TheVariants as av
use Rattle.pipe_exprs.proofs.len.Len.evaluate.Given as goal

-- a null for each row so far
abbrev pub invariant-loop : goal.invariant-loop
invariant-loop l = l.values.items ≡ map (λ row. av.Null) (range_with_len 0 l.counter)
