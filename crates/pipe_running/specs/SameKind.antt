-- When two running aggregates are of one kind.
use Rattle.std.specs.Prelude.{◌≡◌, true}
use Rattle.pipe_columns.specs.declared.any_value.AnyValue.{AnyValue}
use Rattle.pipe_columns.specs.declared.data_type.DataType.{DataType}
use Rattle.pipe_running.specs.declared.function.AggregateFunction.{AggregateFunction}
use Rattle.pipe_running.specs.Stands.{given_types, Suits}
use Rattle.pipe_running.specs.States.{alike, kind_of, takes}

-- they take the same values, may be joined, and give columns of the same types
pub record SameKind (f g : AggregateFunction) : Type 0 where
  pub takes : (v : AnyValue) → takes g v ≡ takes f v
  pub alike : alike f g ≡ true
  pub kind : kind_of g ≡ kind_of f
  pub suits : (t : DataType) → Suits f t → Suits g t
  pub types : given_types g ≡ given_types f
