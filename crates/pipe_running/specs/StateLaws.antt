-- Of the proofs alone: what one more value leaves of a running aggregate of any kind.
use Rattle.std.specs.Prelude.{◌≡◌, ◌+◌, ◌≤◌, refl, true, false}
use Rattle.pipe_columns.specs.declared.any_value.AnyValue.{AnyValue}
use Rattle.pipe_columns.specs.declared.place.Place.{Place}
use Rattle.pipe_running.specs.declared.function.AggregateFunction.{AggregateFunction}
use Rattle.pipe_running.specs.declared.function.AggregateFunction.TheVariants as function
use Rattle.pipe_running.specs.States.{after_value, seen, takes}
use Rattle.pipe_running.specs.TransitionLaws.{count_by_one, none_by_one}

-- a count grows by one at most
pub function_by_one : (p : Place) (v : AnyValue) (f : AggregateFunction)
    → seen (after_value p v f) ≤ seen f + 1
function_by_one p v (function.Count a) = count_by_one false v a.count
function_by_one p v (function.Len a) = count_by_one true v a.count
function_by_one p v (function.Mean a) = count_by_one false v a.count
function_by_one p v f = none_by_one

-- what a running aggregate takes stays
pub function_takes_alike : (p : Place) (v w : AnyValue) (f : AggregateFunction)
    → takes (after_value p v f) w ≡ takes f w
function_takes_alike p v w (function.First a) = refl
function_takes_alike p v w f = refl
