use Rattle.std.proofs.Common.{◌≡◌, replicate}
use Rattle.pipe_columns.specs.declared.any_value.AnyValue.TheVariants as av
use Rattle.pipe_source.proofs.source_columns.file_names.Given as goal

-- the name so many times
abbrev pub invariant-loop : goal.invariant-loop
invariant-loop l = l.names.items ≡ replicate l.counter (av.Text l.file)
