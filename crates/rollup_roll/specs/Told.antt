-- What files tell: each the state of a query whose text its bytes are, or none.
use Rattle.std.specs.Prelude.{◌≡◌, ◌≤◌, ◌+◌, ℕ, List, ◌∷◌, ◌++◌, length, Option}
use Rattle.std.specs.List.{AllZip}
use Rattle.pipe_io.specs.Files.{Files, IsWhole}
use Rattle.pipe_io.specs.declared.whole_file.TheConstants.{MOST_FILE_BYTES}
use Rattle.pipe_model.specs.Query.{QueryTree}
use Rattle.pipe_states.specs.Files.{IsFairStateOf, IsTextOfNone}
use Rattle.pipe_states.specs.States.{StateSeen}
use Rattle.pipe_states.specs.StateText.{state_text}

-- the file of a name tells a fair state of a query: where files are told, its bytes are the text of
-- that state, and no more than are read at once
pub record TellsState
    (q : QueryTree) (told : Option Files) (name : List ℕ) (s : StateSeen) : Type 0 where
  pub fair : IsFairStateOf q s
  pub whole : IsWhole told name (state_text q s)
  pub small : length (state_text q s) ≤ MOST_FILE_BYTES

-- the files of some names tell these states, each its own, in order
abbrev pub TellStates : QueryTree → Option Files → List (List ℕ) → List StateSeen → Type 0
TellStates q told names states = AllZip (TellsState q told) names states

-- the file of a name tells no state: its bytes, no more than are read at once, are the text of none
pub record TellsNone (q : QueryTree) (told : Option Files) (name : List ℕ) : Type 0 where
  pub bytes : List ℕ
  pub whole : IsWhole told name bytes
  pub small : length bytes ≤ MOST_FILE_BYTES
  pub none : IsTextOfNone q bytes

-- the files of some names tell states up to the one with this number, counted from 1, whose name is
-- so
pub record TellUpTo
    (IsSo : List ℕ → Type 0) (q : QueryTree) (told : Option Files)
    (names : List (List ℕ)) (file : ℕ) : Type 0 where
  pub before : List (List ℕ)
  pub name : List ℕ
  pub behind : List (List ℕ)
  pub split : names ≡ before ++ name ∷ behind
  pub number : file ≡ length before + 1
  pub states : List StateSeen
  pub tell : TellStates q told before states
  pub is_so : IsSo name
