-- What the states of a summary come to.
use Rattle.std.specs.Prelude.{◌≡◌, ℕ, List, [], ◌∷◌, length, Option, Some, None}
use Rattle.std.specs.List.{range_with_len}
use Rattle.pipe_columns.specs.Frame.{FrameData, sliced_frame}
use Rattle.pipe_model.specs.Query.{QueryTree}
use Rattle.pipe_spill.specs.Store.{with_frame}
use Rattle.pipe_states.specs.Regrouped.{merged_states, regrouped}
use Rattle.pipe_states.specs.States.{StateSeen}
use Rattle.pipe_states.specs.StateText.{state_text}
use Rattle.pipe_summary.specs.InTurn.{HoldsStates}

-- the positions of all keys of a query
abbrev pub all_keys : QueryTree → List ℕ
all_keys q = range_with_len 0 (length q.keys)

-- the rows of a frame that a slice keeps; without a slice all of them
abbrev pub sliced_rows : Option (ℕ × ℕ) → FrameData → FrameData
sliced_rows None frame = frame
sliced_rows (Some s) frame = sliced_frame s.0 s.1 frame

-- what states come to: regrouped by all keys, under the query's slice
abbrev pub summed : QueryTree → List StateSeen → FrameData
summed q states = sliced_rows q.slice (regrouped q states (all_keys q))

-- a frame is what states in turn come to, as many as frames are held: where these are told, they are
-- the texts of the states
pub record IsSummed
    (q : QueryTree) (told : Option (List (List ℕ))) (held : ℕ) (frame : FrameData) : Type 0 where
  pub states : List StateSeen
  pub holds : HoldsStates q told held states
  pub frame_is : frame ≡ summed q states

-- states merged into one; of none there is none
abbrev pub compacted : QueryTree → List StateSeen → List StateSeen
compacted q [] = []
compacted q (s ∷ others) = merged_states q (s ∷ others) ∷ []

-- what a store tells with the frame of merged states behind its own; of none as before
abbrev pub told_merged :
    QueryTree → Option (List (List ℕ)) → List StateSeen → Option (List (List ℕ))
told_merged q told [] = told
told_merged q told (s ∷ others) = with_frame told (state_text q (merged_states q (s ∷ others)))

-- what a store tells with the frame of such states, merged
pub record IsMerged
    (q : QueryTree) (told : Option (List (List ℕ))) (held : ℕ) (before now : Option (List (List ℕ)))
    : Type 0 where
  pub states : List StateSeen
  pub holds : HoldsStates q told held states
  pub now_is : now ≡ told_merged q before states
