-- The direction of a minimum or a maximum.
use Rattle.std.specs.Prelude.{ℕ, zero, pos, Option, Some, None}
use Rattle.pipe_columns.specs.declared.any_value.AnyValue.TheVariants as av
use Rattle.pipe_columns.specs.declared.place.Place.{Place}
use Rattle.pipe_running.specs.declared.function.AggregateFunction.{AggregateFunction}
use Rattle.pipe_running.specs.declared.function.AggregateFunction.TheVariants as function
use Rattle.pipe_running.specs.declared.interface.Finalized.{Finalized}
use Rattle.pipe_running.specs.declared.interface.Finalized.TheVariants as finalized
use Rattle.pipe_running.specs.declared.min_max.Direction.{Direction}
use Rattle.pipe_running.specs.declared.min_max.Direction.TheVariants as direction
use Rattle.pipe_running.specs.States.{after_value, fresh, given}

-- that of a running aggregate, none where it is neither
abbrev pub direction_in : AggregateFunction → Option Direction
direction_in (function.MinMaxU8 a) = Some a.direction
direction_in (function.MinMaxU16 a) = Some a.direction
direction_in (function.MinMaxU32 a) = Some a.direction
direction_in (function.MinMaxU64 a) = Some a.direction
direction_in (function.MinMaxI8 a) = Some a.direction
direction_in (function.MinMaxI16 a) = Some a.direction
direction_in (function.MinMaxI32 a) = Some a.direction
direction_in (function.MinMaxI64 a) = Some a.direction
direction_in f = None

-- a row of the first chunk
abbrev pub row : ℕ → Place
row n = record { chunk = 0; row = n }

-- what a running aggregate gives of 0 and 1
abbrev pub given_of_two : AggregateFunction → Finalized
given_of_two f =
    given (after_value (row 1) (av.Int (pos 1)) (after_value (row 0) (av.Int (pos 0)) (fresh f)))

-- the direction of what gives this of 0 and 1
abbrev pub direction_by : Finalized → Direction
direction_by (finalized.One (av.Int (pos zero))) = direction.Min
direction_by f = direction.Max
