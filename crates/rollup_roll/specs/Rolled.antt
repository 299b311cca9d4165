-- What the states that files tell come to, rolled up by some keys, and why they come to nothing.
use Rattle.std.specs.Prelude.{◌≡◌, ◌<◌, ◌+◌, ◌^◌, ◌⊎◌, ℕ, Bool, true, false, List, Option, ⊤}
use Rattle.pipe_columns.specs.Frame.{FrameData}
use Rattle.pipe_io.specs.Files.{Files, HasNoFile, IsLarger}
use Rattle.pipe_io.specs.declared.whole_file.TheConstants.{MOST_FILE_BYTES}
use Rattle.pipe_model.specs.Query.{QueryTree}
use Rattle.pipe_regroup.specs.Added.{AreTooLarge}
use Rattle.pipe_states.specs.Regrouped.{regrouped}
use Rattle.pipe_states.specs.States.{StateSeen}
use Rattle.pipe_states.specs.Together.{IsFirstOverlap, NoneOverlap, total_rows}
use Rattle.rollup_roll.specs.declared.roll_error.RollError.{RollError}
use Rattle.rollup_roll.specs.declared.roll_error.RollError.TheVariants as fault
use Rattle.rollup_roll.specs.Told.{TellsNone, TellStates, TellUpTo}

-- the files of some names tell states whose ranges share no number and which are of fewer than 2^32
-- rows, and a frame is what these states come to, regrouped by the keys at some positions
pub record AreRolled
    (q : QueryTree) (keep : List ℕ) (told : Option Files) (names : List (List ℕ))
    (frame : FrameData) : Type 0 where
  pub states : List StateSeen
  pub tell : TellStates q told names states
  pub apart : NoneOverlap states
  pub few : total_rows states < 2 ^ 32
  pub frame_is : frame ≡ regrouped q states keep

-- the files of some names tell states, and the one with this number, counted from 1, is the first
-- whose range shares a number with that of one before it
pub record OverlapAt
    (q : QueryTree) (told : Option Files) (names : List (List ℕ)) (file : ℕ) : Type 0 where
  pub states : List StateSeen
  pub tell : TellStates q told names states
  pub place : ℕ
  pub number : file ≡ place + 1
  pub overlap : IsFirstOverlap states place

-- the files of some names tell states whose ranges share no number and which are of 2^32 rows or
-- more
pub record AreTooMany (q : QueryTree) (told : Option Files) (names : List (List ℕ))
    : Type 0 where
  pub states : List StateSeen
  pub tell : TellStates q told names states
  pub large : AreTooLarge states

-- the first file that tells no state has more bytes than are read at once
abbrev pub HasLargeFile : QueryTree → Option Files → List (List ℕ) → Type 0
HasLargeFile q told names =
    (file : ℕ) × TellUpTo (λ name. IsLarger told name MOST_FILE_BYTES) q told names file

-- why the files of some names are not rolled up, by the error: that the input failed and that
-- memory ran out say nothing of what the files hold
abbrev pub IsRefusal : RollError → QueryTree → Option Files → List (List ℕ) → Type 0
IsRefusal (fault.Missing file) q told names = TellUpTo (HasNoFile told) q told names file
IsRefusal fault.Input q told names = ⊤
IsRefusal (fault.NotAState file) q told names = TellUpTo (TellsNone q told) q told names file
IsRefusal (fault.Overlap file) q told names = OverlapAt q told names file
IsRefusal fault.TooLarge q told names = HasLargeFile q told names ⊎ AreTooMany q told names
IsRefusal fault.Memory q told names = ⊤

-- whether an error says something of the files
abbrev pub is_of_files : RollError → Bool
is_of_files fault.Input = false
is_of_files fault.Memory = false
is_of_files e = true
