-- What a command on saved states owes.
use Rattle.std.specs.Prelude.{◌≡◌, ℕ, List, Option, None, IfSome}
use Rattle.std.specs.Io.KnownBytes.{Appends}
use Rattle.pipe_columns.specs.Frame.{FrameData}
use Rattle.pipe_csv.specs.Texts.{csv_text}
use Rattle.pipe_io.specs.Files.{Files}
use Rattle.pipe_io.specs.Output.{WroteFront}
use Rattle.pipe_model.specs.Query.{QueryTree}
use Rattle.rollup_roll.specs.Rolled.{AreRolled}
use Rattle.rollup_save.specs.Saves.{end_of_files, IsSavedText, text_of_files}
use Rattle.rollup_words.specs.Asked.{Asked, refused, rolls, saves}

-- this is the text of a state; where files are told, all of them can be saved, and it is that of
-- their rows
pub record AreSaved
    (q : QueryTree) (first : ℕ) (told : Option Files) (names : List (List ℕ)) (text : List ℕ)
    : Type 0 where
  pub saved : IsSavedText q first text
  pub whole : IfSome told (λ files. end_of_files files names q first ≡ None)
  pub text_is : IfSome told (λ files. text ≡ text_of_files files names q first)

-- files tell states that go together, and this is the text of the frame that they come to by the
-- kept keys
pub record AreRolledUp
    (q : QueryTree) (keep : List ℕ) (told : Option Files) (names : List (List ℕ)) (text : List ℕ)
    : Type 0 where
  pub frame : FrameData
  pub rolled : AreRolled q keep told names frame
  pub text_is : text ≡ csv_text frame

-- the text that is owed for what is asked
abbrev pub IsOwed : Asked → Option Files → List ℕ → Type 0
IsOwed (refused r) told text = ⊥
IsOwed (saves q first names) told text = AreSaved q first told names text
IsOwed (rolls q keep names) told text = AreRolledUp q keep told names text

-- the output grew by exactly such a text
abbrev pub IsWritten : Asked → Option Files → Option (List ℕ) → Option (List ℕ) → Type 0
IsWritten a told old new = (text : List ℕ) × IsOwed a told text × Appends old new text

-- the output grew by a front of such a text
abbrev pub IsBegun : Asked → Option Files → Option (List ℕ) → Option (List ℕ) → Type 0
IsBegun a told old new = (text : List ℕ) × IsOwed a told text × WroteFront old new text
