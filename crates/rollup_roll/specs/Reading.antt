-- Of the proofs alone: why files are not read as states, before any is regrouped.
use Rattle.std.specs.Prelude.{◌≡◌, ℕ, List, Option, ⊤}
use Rattle.pipe_io.specs.Files.{Files, HasNoFile, IsLarger}
use Rattle.pipe_io.specs.declared.whole_file.TheConstants.{MOST_FILE_BYTES}
use Rattle.pipe_model.specs.Query.{QueryTree}
use Rattle.rollup_roll.specs.declared.roll_error.RollError.{RollError}
use Rattle.rollup_roll.specs.declared.roll_error.RollError.TheVariants as fault
use Rattle.rollup_roll.specs.Rolled.{HasLargeFile}
use Rattle.rollup_roll.specs.Told.{TellsNone, TellUpTo}

-- why the file of a name, with a number, is not read, by the error
abbrev pub IsUnread : RollError → QueryTree → Option Files → List ℕ → ℕ → Type 0
IsUnread (fault.Missing f) q told name file = (f ≡ file) × HasNoFile told name
IsUnread fault.Input q told name file = ⊤
IsUnread (fault.NotAState f) q told name file = (f ≡ file) × TellsNone q told name
IsUnread (fault.Overlap f) q told name file = ⊥
IsUnread fault.TooLarge q told name file = IsLarger told name MOST_FILE_BYTES
IsUnread fault.Memory q told name file = ⊤

-- why the files of some names are not all read, by the error
abbrev pub AreUnread : RollError → QueryTree → Option Files → List (List ℕ) → Type 0
AreUnread (fault.Missing file) q told names = TellUpTo (HasNoFile told) q told names file
AreUnread fault.Input q told names = ⊤
AreUnread (fault.NotAState file) q told names = TellUpTo (TellsNone q told) q told names file
AreUnread (fault.Overlap file) q told names = ⊥
AreUnread fault.TooLarge q told names = HasLargeFile q told names
AreUnread fault.Memory q told names = ⊤
