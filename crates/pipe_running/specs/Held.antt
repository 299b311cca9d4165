-- A running first or last: the type of its values, and the entry that it holds.
use Rattle.std.specs.Prelude.{Bool, true, false, Option, Some, None}
use Rattle.std.specs.Ordering.{is_lt}
use Rattle.pipe_columns.specs.declared.any_value.AnyValue.{AnyValue}
use Rattle.pipe_columns.specs.declared.any_value.AnyValue.TheVariants as av
use Rattle.pipe_columns.specs.declared.data_type.DataType.{DataType}
use Rattle.pipe_columns.specs.declared.place.Place.{Place}
use Rattle.pipe_columns.specs.Place.{place_cmp}

-- the type of the values, and a value with its place, if one came
pub record HeldState : Type 0 where
  pub dtype : DataType
  pub held : Option (Place × AnyValue)

-- a value with its place, where one came
abbrev pub entry_if : Bool → Place → AnyValue → Option (Place × AnyValue)
entry_if true p v = Some (p, v)
entry_if false p v = None

-- whether a value is a text
abbrev pub is_text : AnyValue → Bool
is_text (av.Text s) = true
is_text v = false

-- whether a place is before that of what is held, if anything is
abbrev pub is_earlier : Place → Option (Place × AnyValue) → Bool
is_earlier p None = true
is_earlier p (Some e) = is_lt (place_cmp p e.0)

-- whether a place is after that of what is held, if anything is
abbrev pub is_later : Place → Option (Place × AnyValue) → Bool
is_later p None = true
is_later p (Some e) = is_lt (place_cmp e.0 p)
