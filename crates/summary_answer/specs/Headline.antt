-- What a command on a summary owes.
use Rattle.std.specs.Prelude.{◌≡◌, ℕ, List, [], Option}
use Rattle.std.specs.Io.KnownBytes.{Appends}
use Rattle.pipe_columns.specs.declared.data_chunk.DataChunk.{DataChunk}
use Rattle.pipe_columns.specs.Frame.{FrameData}
use Rattle.pipe_csv.specs.Texts.{csv_text}
use Rattle.pipe_io.specs.Files.{Files}
use Rattle.pipe_io.specs.Output.{WroteFront}
use Rattle.pipe_model.specs.Answer.{answer}
use Rattle.pipe_model.specs.Query.{QueryTree}
use Rattle.pipe_states.specs.States.{StateSeen}
use Rattle.pipe_summary.specs.InTurn.{HoldsStates}
use Rattle.pipe_summary.specs.Summed.{summed}
use Rattle.pipe_summary.specs.Sums.{StandsFor}
use Rattle.summary_add.specs.Adds.{FilesAdded}
use Rattle.summary_answer.specs.Opened.{opened, Opened, unopened}
use Rattle.summary_words.specs.Asked.{adds, Asked, refused, shows}

-- the store holds states, files were added behind them in one addition, and nothing is written
pub record HasAdded
    (q : QueryTree) (names : List (List ℕ)) (files : Option Files) (told : Option (List (List ℕ)))
    (held : ℕ) (now : Option (List (List ℕ))) (text : List ℕ) : Type 0 where
  pub states : List StateSeen
  pub holds : HoldsStates q told held states
  pub added : FilesAdded q names files states told now
  pub nothing : text ≡ []

-- the store holds states, and a text is that of the frame which they come to: where the store tells its
-- frames, these are their texts, and that is the answer over all chunks that it stands for
pub record IsShown
    (q : QueryTree) (told : Option (List (List ℕ))) (held : ℕ) (text : List ℕ) : Type 0 where
  pub states : List StateSeen
  pub holds : HoldsStates q told held states
  pub frame : FrameData
  pub sums : frame ≡ summed q states
  pub answers : (chunks : List DataChunk) → StandsFor q told chunks → frame ≡ answer chunks q 1
  pub text_is : text ≡ csv_text frame

-- the same, and the store tells what it did
pub record HasShown
    (q : QueryTree) (told : Option (List (List ℕ))) (held : ℕ) (now : Option (List (List ℕ)))
    (text : List ℕ) : Type 0 where
  pub shown : IsShown q told held text
  pub same : now ≡ told

-- what is owed for what is asked, of a store that told and held so much: what it tells now, and a text
abbrev pub IsOwed :
    Asked → Option Files → Option (List (List ℕ)) → ℕ → Option (List (List ℕ)) → List ℕ → Type 0
IsOwed (refused r) files told held now text = ⊥
IsOwed (adds q names) files told held now text = HasAdded q names files told held now text
IsOwed (shows q) files told held now text = HasShown q told held now text

-- that is so, and the output grew by exactly the text
pub record IsDone
    (a : Asked) (files : Option Files) (told : Option (List (List ℕ))) (held : ℕ)
    (now : Option (List (List ℕ))) (old new : Option (List ℕ)) : Type 0 where
  pub text : List ℕ
  pub owed : IsOwed a files told held now text
  pub written : Appends old new text

-- the output grew by a front of the text that is shown
pub record HasBegun
    (q : QueryTree) (told : Option (List (List ℕ))) (held : ℕ) (old new : Option (List ℕ))
    : Type 0 where
  pub text : List ℕ
  pub shown : IsShown q told held text
  pub front : WroteFront old new text

-- so it did for what is asked; where files are added nothing is written
abbrev pub IsBegun : Asked → Opened → Option (List ℕ) → Option (List ℕ) → Type 0
IsBegun (refused r) o old new = ⊥
IsBegun (adds q names) o old new = ⊥
IsBegun (shows q) (unopened e) old new = ⊥
IsBegun (shows q) (opened told held) old new = HasBegun q told held old new
