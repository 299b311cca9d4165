-- Of the proofs alone: what a summary keeps.
use Rattle.std.specs.Prelude.{◌≡◌, ◌+◌, ℕ, List, length, take, slice_get, Option, Some, IfSome, false}
use Rattle.pipe_columns.specs.declared.data_chunk.DataChunk.{DataChunk}
use Rattle.pipe_columns.specs.declared.schema.Field.{Field}
use Rattle.pipe_columns.specs.Frame.{FrameData}
use Rattle.pipe_model.specs.Query.{QueryTree}
use Rattle.pipe_model.specs.Rows.{total_height}
use Rattle.pipe_saving.specs.Refusals.{AllFit}
use Rattle.pipe_states.specs.Files.{IsTextOfNone}
use Rattle.pipe_states.specs.Regrouped.{end_of, regrouped}
use Rattle.pipe_states.specs.States.{StateSeen}
use Rattle.pipe_states.specs.Together.{total_rows}
use Rattle.pipe_summary.specs.Additions.{AreFewBehind}
use Rattle.pipe_summary.specs.InTurn.{AreInTurn, HoldsStates, TellNoneBehind}
use Rattle.pipe_summary.specs.Summed.{all_keys}
use Rattle.pipe_summary.specs.Sums.{texts_of}

-- states in turn, which end at a position and are of so many rows
pub record HasReached (q : QueryTree) (states : List StateSeen) (stop count : ℕ) : Type 0 where
  pub in_turn : AreInTurn q states
  pub end : stop ≡ end_of states
  pub rows : count ≡ total_rows states

-- a summary: its query doesn't keep order, and its store holds its states
pub record IsSummary
    (q : QueryTree) (told : Option (List (List ℕ))) (held : ℕ) (states : List StateSeen)
    : Type 0 where
  pub unordered : q.keeps_order ≡ false
  pub holds : HoldsStates q told held states

-- an addition: its chunks have the columns of a schema and are few behind the rows before, and so
-- many rows are counted
pub record IsAdding
    (fields : List Field) (before first : ℕ) (taken : List DataChunk) (rows : ℕ) : Type 0 where
  pub fit : AllFit fields taken
  pub few : AreFewBehind before first taken
  pub counted : rows ≡ before + total_height taken

-- the frame of a number is damaged: it is the text of no fair state
pub record IsDamagedAt (q : QueryTree) (told : Option (List (List ℕ))) (at n : ℕ) : Type 0 where
  pub number : n ≡ at
  pub none : IfSome told (λ frames. (bytes : List ℕ)
      × (slice_get frames at ≡ Some bytes) × IsTextOfNone q bytes)

-- the frame behind those of states is damaged: it is the text of none that could stand behind them
pub record IsDamagedNext
    (q : QueryTree) (told : Option (List (List ℕ))) (states : List StateSeen) (n : ℕ) : Type 0 where
  pub number : n ≡ length states
  pub none : IfSome told (λ frames. (bytes : List ℕ)
      × (slice_get frames n ≡ Some bytes) × TellNoneBehind q states bytes)

-- the first frames are the texts of states, where they are told
abbrev pub AreFront : QueryTree → Option (List (List ℕ)) → List StateSeen → Type 0
AreFront q told states =
    IfSome told (λ frames. take (length states) frames ≡ texts_of q states)

-- a frame is what states in turn come to by all keys, as many as frames are held
pub record IsRegrouped
    (q : QueryTree) (told : Option (List (List ℕ))) (held : ℕ) (frame : FrameData) : Type 0 where
  pub states : List StateSeen
  pub holds : HoldsStates q told held states
  pub frame_is : frame ≡ regrouped q states (all_keys q)
