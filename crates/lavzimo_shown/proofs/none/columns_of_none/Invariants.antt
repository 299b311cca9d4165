use Rattle.std.proofs.Common.{◌≡◌, ◌∷◌, take}
use Rattle.std.specs.Prelude.{pos}
use Rattle.pipe_columns.specs.declared.any_value.AnyValue.TheVariants as av
use Rattle.lavzimo_shown.specs.NoRows.{one_values}
use Rattle.lavzimo_shown.proofs.NoneFacts.{of_columns}
use Rattle.lavzimo_shown.proofs.none.columns_of_none.Given as goal

-- the values of the columns so far
abbrev pub invariant-loop-column : goal.invariant-loop-column
invariant-loop-column l = l.ones.items ≡ one_values (av.Int (pos 0) ∷ of_columns (take l.column-index l.columns))
