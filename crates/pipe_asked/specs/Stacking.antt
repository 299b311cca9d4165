-- Of the proofs alone: frames below one another.
use Rattle.std.specs.Prelude.{◌≡◌, ◌+◌, ◌<◌, false, true, length, List, [], fold, None}
use Rattle.std.specs.List.{All, flat_map}
use Rattle.pipe_columns.specs.declared.place.Place.{Place}
use Rattle.pipe_columns.specs.declared.schema.Field.{Field}
use Rattle.pipe_columns.specs.Frame.{AllHaveHeight, FitsSchema, frame_of, FrameData, stacked}
use Rattle.pipe_columns.specs.Row.{Row}
use Rattle.pipe_aggs.specs.QueryTrees.{query_tree}
use Rattle.pipe_inputs.specs.RowTypes.{IsRowOf}
use Rattle.pipe_model.specs.Answer.{groups}
use Rattle.pipe_model.specs.Output.{output_schema}
use Rattle.pipe_model.specs.Query.{QueryTree}
use Rattle.pipe_model.specs.Rows.{HaveDistinctPlaces}
use Rattle.pipe_groups.specs.declared.placed_groups.PlacedGroups.{PlacedGroups}
use Rattle.pipe_groups.specs.Given.{IsFrameOfGroups}
use Rattle.pipe_groups.specs.Pieces.{PiecesSeen}
use Rattle.pipe_asked.specs.Given.{frame_of_keys, HasGivenNext, HasRows, joined_frames, SourceSeen}
use Rattle.pipe_asked.specs.Sources.{ArePlacedParts, chunks_left, GroupSourceSeen, HasAllRows, source_query}

-- their frames, those of each below those of the one before
abbrev pub all_frames : List Field → List PlacedGroups → FrameData
all_frames fields placed = fold (λ f g. stacked f g.frame) (frame_of fields []) placed

-- their places, in the same order
abbrev pub all_firsts : List PlacedGroups → List Place
all_firsts placed = flat_map (λ g. g.firsts) placed

-- a whole is that of a frame of these fields
pub record IsOfFields {W : Type 0} (Is : W → FrameData → Type 0) (fields : List Field) (whole : W)
    : Type 0 where
  pub frame : FrameData
  pub is : Is whole frame
  pub fits : FitsSchema fields frame

-- a whole is that of the chunks that are left in a source, below one another
pub record IsWholeOfChunks {W : Type 0} (Is : W → FrameData → Type 0) (s : GroupSourceSeen) (whole : W)
    : Type 0 where
  pub frame : FrameData
  pub fits : FitsSchema (output_schema (source_query s)) frame
  pub is : Is whole frame
  pub joined : (rs : List Row) → HasAllRows rs s
      → frame ≡ joined_frames (source_query s) (chunks_left rs s)

-- a source of which no groups wait
abbrev pub alone : SourceSeen → GroupSourceSeen
alone s = record { asked = s; placed = []; is_given = false }

-- groups are to be given whose frame is that of the next partition's chunk
pub record GivesNextPieces (s new : SourceSeen) (p : PiecesSeen) : Type 0 where
  pub fields : p.shape.fields ≡ output_schema (query_tree s.query)
  pub given : (f : FrameData) → IsFrameOfGroups p.shape p.left f → (rs : List Row) → HasRows rs s
      → HasGivenNext rs s new (record { chunk_index = s.given + 1; frame = f })

-- a whole of the next partition was given: it is that of the frame of its chunk
pub record HasGivenWhole {W : Type 0} (Is : W → FrameData → Type 0) (s new : SourceSeen) (whole : W)
    : Type 0 where
  pub frame : FrameData
  pub is : Is whole frame
  pub fits : FitsSchema (output_schema (query_tree s.query)) frame
  pub tall : AllHaveHeight frame.height frame.columns
  pub given : (rs : List Row) → HasRows rs s
      → HasGivenNext rs s new (record { chunk_index = s.given + 1; frame = frame })

-- a whole is that of a frame of a query's columns, which has all placed groups in the order of their rows
pub record IsPlacedWhole {W : Type 0} (Is : W → FrameData → Type 0) (q : QueryTree)
    (placed : List PlacedGroups) (whole : W) : Type 0 where
  pub frame : FrameData
  pub fits : FitsSchema (output_schema q) frame
  pub is : Is whole frame
  pub ordered : (rs : List Row) → 0 < length placed → q.keeps_order ≡ true → HaveDistinctPlaces rs
      → All (IsRowOf q) rs → ArePlacedParts q rs (length placed) placed
      → frame ≡ frame_of_keys q rs None (groups rs q (length placed))
