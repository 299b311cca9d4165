-- Of the proofs alone: the frame of groups, whose values are taken out column by column.
use Rattle.std.specs.Prelude.{ℕ, ◌++◌, List, map, All, set, option_to_list}
use Rattle.std.specs.List.{flat_map, slice_get}
use Rattle.pipe_columns.specs.declared.any_value.AnyValue.{AnyValue}
use Rattle.pipe_columns.specs.declared.any_value.AnyValue.TheVariants as av
use Rattle.pipe_columns.specs.declared.schema.Field.{Field}
use Rattle.pipe_columns.specs.Frame.{value_at}
use Rattle.pipe_spill.specs.KeyTypes.{IsTuple}
use Rattle.pipe_regroup.specs.declared.group.Group.{Group}

-- the fields at some positions
abbrev pub fields_at : List Field → List ℕ → List Field
fields_at fields positions = flat_map (λ i. option_to_list (slice_get fields i)) positions

-- the row of a group: its key, then its results
abbrev pub values_of : Group → List AnyValue
values_of g = g.key.items ++ g.results.items

-- the values at a place of rows
abbrev pub values_at : ℕ → List (List AnyValue) → List AnyValue
values_at place rows = map (λ row. value_at row place) rows

-- a row without the value at a place
abbrev pub without : ℕ → List AnyValue → List AnyValue
without place row = set row place av.Null

-- the rows of groups have values of the types of fields
abbrev pub AreRowsOf : List Field → List Group → Type 0
AreRowsOf fields groups = All (λ g. IsTuple (map (λ f. f.dtype) fields) (values_of g)) groups
