-- Files of states: which states are those of a query, and which bytes are the text of none.
use Rattle.std.specs.Prelude.{◌≢◌, ℕ, List}
use Rattle.pipe_model.specs.Query.{QueryTree}
use Rattle.pipe_states.specs.Fair.{IsFair, IsStateOf}
use Rattle.pipe_states.specs.States.{StateSeen}
use Rattle.pipe_states.specs.StateText.{state_text}

-- a fair state of a query
pub record IsFairStateOf (q : QueryTree) (s : StateSeen) : Type 0 where
  pub fair : IsFair s
  pub of_query : IsStateOf q s

-- bytes are the text of no fair state of a query
abbrev pub IsTextOfNone : QueryTree → List ℕ → Type 0
IsTextOfNone q bytes = (s : StateSeen) → IsFairStateOf q s → state_text q s ≢ bytes
