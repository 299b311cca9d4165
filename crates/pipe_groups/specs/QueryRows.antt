-- Groups that hold the rows of a query.
use Rattle.std.specs.Prelude.{◌≡◌, All, List, map, option_map, Some}
use Rattle.std.specs.List.{IsDistinct}
use Rattle.std.specs.Str.{bytes_eq}
use Rattle.pipe_columns.specs.declared.place.Place.{Place}
use Rattle.pipe_columns.specs.declared.any_value.AnyValue.{AnyValue}
use Rattle.pipe_columns.specs.Frame.{frame_of, FrameData}
use Rattle.pipe_columns.specs.Place.{first_entry}
use Rattle.pipe_columns.specs.Row.{Row}
use Rattle.pipe_aggs.specs.HashAggs.{prototypes}
use Rattle.pipe_inputs.specs.RowTypes.{IsRowOf}
use Rattle.pipe_model.specs.Answer.{answer_row, rows_at}
use Rattle.pipe_model.specs.Groupable.{IsGroupable}
use Rattle.pipe_model.specs.Output.{key_types, output_schema}
use Rattle.pipe_model.specs.Query.{QueryTree}
use Rattle.pipe_spill.specs.SpillRow.{spilled}
use Rattle.pipe_groups.specs.Given.{in_order, IsFrameOfGroups}
use Rattle.pipe_groups.specs.Groups.{Group, group_keys}
use Rattle.pipe_groups.specs.Holds.{Holds}
use Rattle.pipe_groups.specs.Shape.{Shape}

-- groups in which no key stands twice hold rows, with the types of a query that has no fault
pub record HoldRowsOf (q : QueryTree) (gs : List Group) (rs : List Row) : Type 0 where
  pub groupable : IsGroupable q
  pub typed : All (IsRowOf q) rs
  pub apart : IsDistinct bytes_eq (group_keys gs)
  pub holds : Holds (prototypes q) gs (map (spilled (key_types q)) rs)

-- a frame has a row for each group in order, and these are the least places of their rows
pub record ArePlaced (s : Shape) (gs : List Group) (frame : FrameData) (firsts : List Place)
    : Type 0 where
  pub frame_is : IsFrameOfGroups s (in_order gs) frame
  pub firsts_are : map Some firsts ≡ map (λ g. g.first) (in_order gs)

-- a frame has the row of the answer for each of some keys, and these are the least places where
-- rows have them
pub record ArePlacedRows (q : QueryTree) (rs : List Row) (keys : List (List AnyValue))
    (frame : FrameData) (firsts : List Place) : Type 0 where
  pub frame_is : frame ≡ frame_of (output_schema q) (map (answer_row q rs) keys)
  pub firsts_are :
      map Some firsts ≡ map (λ k. option_map (λ e. e.0) (first_entry (rows_at rs k))) keys
