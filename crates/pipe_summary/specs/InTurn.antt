-- States that stand in a summary, and which frame is the first that tells no such state.
use Rattle.std.specs.Prelude.{◌≡◌, ◌<◌, ◌^◌, ℕ, List, [], ◌∷◌, ◌++◌, length, take, slice_get, All, Option, Some, IfSome}
use Rattle.pipe_model.specs.Query.{QueryTree}
use Rattle.pipe_states.specs.Files.{IsFairStateOf}
use Rattle.pipe_states.specs.States.{StateSeen}
use Rattle.pipe_states.specs.StateText.{state_text}
use Rattle.pipe_states.specs.Together.{total_rows}
use Rattle.pipe_summary.specs.Sums.{texts_of}

-- no range of states is empty; the first begins at a position, each other one where the one before
-- ends
abbrev pub FollowFrom : ℕ → List StateSeen → Type 0
FollowFrom first [] = Unit {0}
FollowFrom first (s ∷ others) = (s.first ≡ first) × (s.first < s.end) × FollowFrom s.end others

-- fair states of a query whose ranges follow one another from 0 on, of fewer than 2^32 rows
pub record AreInTurn (q : QueryTree) (states : List StateSeen) : Type 0 where
  pub fair : All (IsFairStateOf q) states
  pub follow : FollowFrom 0 states
  pub few : total_rows states < 2 ^ 32

-- bytes are the text of no state that could stand behind some
abbrev pub TellNoneBehind : QueryTree → List StateSeen → List ℕ → Type 0
TellNoneBehind q states bytes =
    (s : StateSeen) → state_text q s ≡ bytes → AreInTurn q (states ++ s ∷ []) → ⊥

-- the frame of a number is damaged: those before it are the texts of states in turn, and it is the
-- text of none that could stand behind them
pub record IsFirstDamaged (q : QueryTree) (frames : List (List ℕ)) (number : ℕ) : Type 0 where
  pub states : List StateSeen
  pub in_turn : AreInTurn q states
  pub before : take number frames ≡ texts_of q states
  pub bytes : List ℕ
  pub at : slice_get frames number ≡ Some bytes
  pub none : TellNoneBehind q states bytes

-- so many frames are held, which are the texts of states in turn, where they are told
pub record HoldsStates
    (q : QueryTree) (told : Option (List (List ℕ))) (held : ℕ) (states : List StateSeen)
    : Type 0 where
  pub in_turn : AreInTurn q states
  pub count : held ≡ length states
  pub texts : IfSome told (λ frames. frames ≡ texts_of q states)
