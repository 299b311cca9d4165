-- Of the proofs alone: states of which the code holds nothing.
use Rattle.std.specs.Prelude.{List, [], ◌∷◌, ◌++◌}
use Rattle.pipe_states.specs.States.{StateSeen}
use Rattle.pipe_summary.specs.declared.held_state.HeldState.{HeldState, None, Behind'}

-- the states in their order
abbrev pub states_of : HeldState → List StateSeen
states_of None = []
states_of (Behind' marker before state) = states_of before ++ state.value ∷ []
