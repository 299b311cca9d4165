-- A row as a group-by sees it.
use Rattle.std.specs.Prelude.{List}
use Rattle.pipe_columns.specs.declared.place.Place.{Place}
use Rattle.pipe_columns.specs.declared.any_value.AnyValue.{AnyValue}

-- where it stands, the tuple of its keys and the inputs of the aggregates
pub record Row : Type 0 where
  pub place : Place
  pub key : List AnyValue
  pub inputs : List AnyValue
