-- Chunks that are added to a summary: whether they can be, and what it holds then.
use Rattle.std.specs.Prelude.{◌+◌, ◌<◌, ◌≤◌, ◌^◌, ℕ, List, [], ◌∷◌, ◌++◌, length, ◌⊎◌, Option}
use Rattle.pipe_columns.specs.declared.data_chunk.DataChunk.{DataChunk}
use Rattle.pipe_columns.specs.declared.schema.Field.{Field}
use Rattle.pipe_aggs.specs.declared.query.Query.{Query}
use Rattle.pipe_model.specs.Query.{QueryTree}
use Rattle.pipe_model.specs.Rows.{total_height}
use Rattle.pipe_saving.specs.Refusals.{AllFit}
use Rattle.pipe_spill.specs.Store.{with_frame}
use Rattle.pipe_states.specs.Parts.{part_of, saved}
use Rattle.pipe_states.specs.Regrouped.{end_of}
use Rattle.pipe_states.specs.States.{StateSeen}
use Rattle.pipe_states.specs.StateText.{state_text}
use Rattle.pipe_states.specs.Together.{total_rows}

-- chunks from a first position on, behind so many rows: all rows are fewer than 2^32, and a range
-- can end behind the last position
pub record AreFewBehind (before first : ℕ) (chunks : List DataChunk) : Type 0 where
  pub rows : before + total_height chunks < 2 ^ 32
  pub positions : first + length chunks < 2 ^ 32

-- all rows are 2^32 or more, or there are no such positions
abbrev pub AreManyBehind : ℕ → ℕ → List DataChunk → Type 0
AreManyBehind before first chunks =
    (2 ^ 32 ≤ before + total_height chunks) ⊎ (2 ^ 32 ≤ first + length chunks)

-- chunks have the columns of a schema, and are few behind states
pub record CanBeAdded (fields : List Field) (states : List StateSeen) (chunks : List DataChunk)
    : Type 0 where
  pub fit : AllFit fields chunks
  pub few : AreFewBehind (total_rows states) (end_of states) chunks

-- chunks have the columns of a schema, and are too many behind states
pub record AreTooMany (fields : List Field) (states : List StateSeen) (chunks : List DataChunk)
    : Type 0 where
  pub fit : AllFit fields chunks
  pub many : AreManyBehind (total_rows states) (end_of states) chunks

-- the state of chunks whose range begins where states end
abbrev pub state_behind : QueryTree → List StateSeen → List DataChunk → StateSeen
state_behind q states chunks = saved q (part_of q (end_of states) chunks)

-- states with that of chunks behind them; without a chunk there is none more
abbrev pub states_with : QueryTree → List StateSeen → List DataChunk → List StateSeen
states_with q states [] = states
states_with q states (c ∷ cs) = states ++ state_behind q states (c ∷ cs) ∷ []

-- what a store of states tells with the frame of chunks behind them; without a chunk as before
abbrev pub told_with :
    QueryTree → Option (List (List ℕ)) → List StateSeen → List DataChunk
    → Option (List (List ℕ))
told_with q told states [] = told
told_with q told states (c ∷ cs) =
    with_frame told (state_text q (state_behind q states (c ∷ cs)))

-- an addition under way: the query, of how many rows the states before it are and where they end,
-- and the chunks taken, in order
pub record AddingSeen : Type 0 where
  pub query : Query
  pub rows : ℕ
  pub first : ℕ
  pub taken : List DataChunk
