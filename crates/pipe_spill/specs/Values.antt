-- Of the proofs alone: a list of values, which stand in the list itself where they are few.
use Rattle.std.specs.Prelude.{◌≤◌, List, take, ⊤}
use Rattle.pipe_columns.specs.declared.any_value.AnyValue.{AnyValue}
use Rattle.pipe_spill.specs.declared.values.Kept.{Kept}
use Rattle.pipe_spill.specs.declared.values.Kept.TheVariants as kept
use Rattle.pipe_spill.specs.declared.values.TheConstants.{MOST_FEW}

-- the values, wherever they stand
abbrev pub values_of : Kept → List AnyValue
values_of (kept.Few len values) = take len values
values_of (kept.Many items) = items.items

-- no more are used than there is room for
abbrev pub AreFew : Kept → Type 0
AreFew (kept.Few len values) = len ≤ MOST_FEW
AreFew (kept.Many items) = ⊤
