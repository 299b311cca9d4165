-- Summaries of chunks: the texts of the states of runs of them, one behind another.
use Rattle.std.specs.Prelude.{◌≡◌, ◌≤◌, ℕ, List, length, map, All, Option, Some, None}
use Rattle.std.specs.List.{flat_map}
use Rattle.pipe_columns.specs.declared.data_chunk.DataChunk.{DataChunk}
use Rattle.pipe_model.specs.Query.{QueryTree}
use Rattle.pipe_states.specs.Files.{IsFairStateOf}
use Rattle.pipe_states.specs.Parts.{parts_from, saved}
use Rattle.pipe_states.specs.States.{StateSeen}
use Rattle.pipe_states.specs.StateText.{state_text}

-- the states of runs of chunks, one behind another: the range of the first begins at 0, that of
-- each other one where the one before ends
abbrev pub run_states : QueryTree → List (List DataChunk) → List StateSeen
run_states q runs = map (saved q) (parts_from q 0 runs)

-- the texts of states
abbrev pub texts_of : QueryTree → List StateSeen → List (List ℕ)
texts_of q states = map (state_text q) states

-- frames sum chunks up: the chunks are cut into runs of one at least, and the frames are the texts
-- of the states of these, which are fair
pub record Sums (q : QueryTree) (frames : List (List ℕ)) (chunks : List DataChunk) : Type 0 where
  pub runs : List (List DataChunk)
  pub joined : chunks ≡ flat_map (λ run. run) runs
  pub some : All (λ run. 1 ≤ length run) runs
  pub fair : All (IsFairStateOf q) (run_states q runs)
  pub texts : frames ≡ texts_of q (run_states q runs)

-- what a store tells stands for chunks: its frames sum them up
abbrev pub StandsFor : QueryTree → Option (List (List ℕ)) → List DataChunk → Type 0
StandsFor q None chunks = ⊥
StandsFor q (Some frames) chunks = Sums q frames chunks
