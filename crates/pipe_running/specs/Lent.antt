-- Values that are lent: which of them a running aggregate would keep as a text.
use Rattle.std.specs.Prelude.{ℕ, ◌+◌, ◌-◌, ◌&&◌, Bool, false, List, length, Option, Some, None, if◌then◌else◌}
use Rattle.pipe_columns.specs.declared.any_value.AnyValue.{AnyValue}
use Rattle.pipe_columns.specs.declared.place.Place.{Place}
use Rattle.pipe_columns.specs.Frame.{value_at}
use Rattle.pipe_running.specs.Held.{is_earlier, is_later, is_text}
use Rattle.pipe_running.specs.declared.function.AggregateFunction.{AggregateFunction}
use Rattle.pipe_running.specs.declared.function.AggregateFunction.TheVariants as function

-- whether a running aggregate would keep a value at a place as a text: a first or last alone does
abbrev pub keeps_text : Place → AnyValue → AggregateFunction → Bool
keeps_text p v (function.First a) = is_text v && is_earlier p a.held
keeps_text p v (function.Last a) = is_text v && is_later p a.held
keeps_text p v f = false

-- the index of the value of a run that alone matters: the first one to a first, else the last one
abbrev pub end_of_run : List AnyValue → AggregateFunction → ℕ
end_of_run values (function.First a) = 0
end_of_run values f = length values - 1

-- the index of the value of a run that a running aggregate would keep as a text, if there is one
abbrev pub text_of_run : ℕ → ℕ → List AnyValue → AggregateFunction → Option ℕ
text_of_run chunk row values f =
    let i = end_of_run values f in
    let p : Place = record { chunk = chunk; row = row + i } in
    if keeps_text p (value_at values i) f then Some i else None
