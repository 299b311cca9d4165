-- What the groups of partitions become.
use Rattle.std.specs.Prelude.{◌≡◌, List, length}
use Rattle.pipe_columns.specs.declared.schema.Field.{Field}
use Rattle.pipe_columns.specs.Frame.{fields_of, FitsSchema, FrameData}
use Rattle.pipe_columns.specs.Row.{Row}
use Rattle.pipe_aggs.specs.QueryTrees.{query_tree}
use Rattle.pipe_model.specs.Answer.{answer_of}
use Rattle.pipe_model.specs.Output.{output_schema}
use Rattle.pipe_groups.specs.Given.{IsFrameOfGroups}
use Rattle.pipe_groups.specs.Groups.{Group}
use Rattle.pipe_groups.specs.Shape.{Shape}
use Rattle.pipe_asked.specs.Given.{HasRows, SourceSeen}

-- two wholes are those of frames of the same fields
pub record AreAlike {W : Type 0} (Is : W → FrameData → Type 0) (whole more : W) : Type 0 where
  pub frame : FrameData
  pub other : FrameData
  pub is : Is whole frame
  pub other_is : Is more other
  pub fields : fields_of other.columns ≡ fields_of frame.columns

-- a whole is that of a frame with a row for each group, in order
pub record IsWholeOfGroups {W : Type 0} (Is : W → FrameData → Type 0) (s : Shape) (gs : List Group)
    (whole : W) : Type 0 where
  pub frame : FrameData
  pub is : Is whole frame
  pub groups : IsFrameOfGroups s gs frame

-- a whole is that of a frame of the query's columns, which is the answer over the rows that a source
-- stands for
pub record IsAnswerWhole {W : Type 0} (Is : W → FrameData → Type 0) (s : SourceSeen) (whole : W)
    : Type 0 where
  pub frame : FrameData
  pub fits : FitsSchema (output_schema (query_tree s.query)) frame
  pub is : Is whole frame
  pub answer : (rs : List Row) → HasRows rs s
      → frame ≡ answer_of rs (query_tree s.query) (length s.partitions)
