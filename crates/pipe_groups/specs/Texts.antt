-- Of a row that is lent: the texts that have to be copied.
use Rattle.std.specs.Prelude.{ℕ, ◌+◌, List, [], ◌∷◌, ◌++◌, if◌then◌else◌}
use Rattle.pipe_columns.specs.declared.any_value.AnyValue.{AnyValue}
use Rattle.pipe_columns.specs.declared.place.Place.{Place}
use Rattle.pipe_columns.specs.Frame.{value_at}
use Rattle.pipe_running.specs.declared.function.AggregateFunction.{AggregateFunction}
use Rattle.pipe_running.specs.Lent.{keeps_text}

-- those that running aggregates would keep, from the input at position j on, the last one first
abbrev pub kept_texts : Place → ℕ → List AnyValue → List AggregateFunction → List AnyValue
kept_texts p j inputs [] = []
kept_texts p j inputs (s ∷ ss) =
    kept_texts p (j + 1) inputs ss
    ++ (if keeps_text p (value_at inputs j) s then value_at inputs j ∷ [] else [])
