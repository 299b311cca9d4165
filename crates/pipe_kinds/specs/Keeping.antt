-- What running aggregates keep of the values that they are fed.
use Rattle.std.specs.Prelude.{Bool, true, false}
use Rattle.pipe_columns.specs.declared.any_value.AnyValue.{AnyValue}
use Rattle.pipe_columns.specs.declared.any_value.AnyValue.TheVariants as av
use Rattle.pipe_running.specs.declared.function.AggregateFunction.{AggregateFunction}
use Rattle.pipe_running.specs.declared.function.AggregateFunction.TheVariants as function

-- whether a running aggregate keeps a value itself: a first or last does
abbrev pub keeps_value : AggregateFunction → Bool
keeps_value (function.First a) = true
keeps_value (function.Last a) = true
keeps_value f = false

-- what serves as well as a value where none is kept: a text counts, and adds nothing, as false does
abbrev pub plain_value : AnyValue → AnyValue
plain_value (av.Text s) = av.Boolean false
plain_value v = v
