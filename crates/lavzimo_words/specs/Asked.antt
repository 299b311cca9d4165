-- What the words of the program ask.
use Rattle.std.specs.Prelude.{◌≡◌, ℕ, Bool, true, false, List, [], ◌∷◌, codes, find, Option, Some, None, is_some, unwrap_or, Result, Ok, Err}
use Rattle.clap.specs.Words.{IsAmong, Kinds, Row, all_of, first_of}
use Rattle.clap.specs.declared.error.kind.ErrorKind.{ErrorKind}
use Rattle.clap.specs.declared.error.kind.ErrorKind.TheVariants as kind
use Rattle.pipe_words.specs.declared.plan.Format.{Format}
use Rattle.lavzimo_words.specs.Command.{Found, found_in, stops, taken}
use Rattle.lavzimo_words.specs.Items.{pieces_in}
use Rattle.lavzimo_words.specs.Joined.{joined}
use Rattle.lavzimo_words.specs.Results.{ok_as, on_ok}
use Rattle.lavzimo_words.specs.Roles.{option_of}
use Rattle.lavzimo_words.specs.Settings.{format_of, most, number_of, order_of}
use Rattle.lavzimo_words.specs.Shown.{shown_of}
use Rattle.lavzimo_words.specs.declared.asked.Asked.{Asked}
use Rattle.lavzimo_words.specs.declared.asked.Columns.{Columns}
use Rattle.lavzimo_words.specs.declared.asked.Order.{Order}
use Rattle.lavzimo_words.specs.declared.asked.Question.{Question}
use Rattle.lavzimo_words.specs.declared.asked.Question.TheVariants as question
use Rattle.lavzimo_words.specs.declared.refusal.Refusal.{Refusal}
use Rattle.lavzimo_words.specs.declared.refusal.Refusal.TheVariants as refusal
use Rattle.lavzimo_words.specs.declared.role.Role.{Role}
use Rattle.lavzimo_words.specs.declared.asked_column.AskedColumn.{AskedColumn}
use Rattle.lavzimo_words.specs.declared.words.Reading.{Reading}
use Rattle.lavzimo_words.specs.declared.words.Reading.TheVariants as reading

-- columns that are asked for: those that are shown, keys before the others, in which order their rows
-- come, how many are left out at the front, and how many are shown at most
pub record ColumnsSeen : Type 0 where
  pub columns : List AskedColumn
  pub order : Order
  pub offset : ℕ
  pub limit : Option ℕ

-- what is asked: a query of a file, or columns
pub data QuestionSeen : Type 0 where
  of_file : List ℕ → QuestionSeen
  of_columns : ColumnsSeen → QuestionSeen

-- what is asked, how the answer is written, how many workers there are, if that is said, how many
-- partitions, the folder of spilled rows, if there is one, and which files are read
pub record AskedSeen : Type 0 where
  pub question : QuestionSeen
  pub format : Format
  pub workers : Option ℕ
  pub partitions : ℕ
  pub spill_dir : Option (List ℕ)
  pub files : List (List ℕ)

-- columns, with their list
abbrev pub columns_seen : Columns → ColumnsSeen
columns_seen c =
    record { columns = c.columns.items; order = c.order; offset = c.offset; limit = c.limit }

-- a question, with its lists
abbrev pub question_seen : Question → QuestionSeen
question_seen (question.File name) = of_file name
question_seen (question.Columns c) = of_columns (columns_seen c)

-- what is asked, with its lists
abbrev pub asked_seen : Asked → AskedSeen
asked_seen a = record {
  question = question_seen a.question;
  format = a.format;
  workers = a.workers;
  partitions = a.partitions;
  spill_dir = a.spill_dir;
  files = a.files.items;
}

-- the columns that pieces ask for, and how options say they are shown
abbrev pub columns_in : List (Role × List ℕ) → List Row → Result ColumnsSeen Refusal
columns_in pieces rows =
    on_ok (λ columns.
    on_ok (λ order.
    on_ok (λ offset.
    ok_as (λ limit. record {
      columns = columns;
      order = order;
      offset = unwrap_or offset 0;
      limit = limit;
    })
    (number_of 0 most (codes "limit") rows))
    (number_of 0 most (codes "offset") rows))
    (order_of columns (first_of (codes "order") rows)))
    (shown_of pieces)

-- the first of some options that is given
abbrev pub given : List (List ℕ) → List Row → Option (List ℕ)
given options rows = find (λ name. is_some (first_of name rows)) options

-- an option that may not stand beside a query: one of columns, or one of their order and bounds
abbrev pub beside_query : List (Role × List ℕ) → List Row → Option (List ℕ)
beside_query (p ∷ pieces) rows = Some (option_of p.0)
beside_query [] rows = given (codes "order" ∷ codes "offset" ∷ codes "limit" ∷ []) rows

-- a query of a file, beside an option or none
abbrev pub file_alone : List ℕ → Option (List ℕ) → Result QuestionSeen Refusal
file_alone file None = Ok (of_file file)
file_alone file (Some option) = Err (refusal.BesideQuery option)

-- what is asked, where a file of a query is named or none
abbrev pub question_by : Option (List ℕ) → List (Role × List ℕ) → List Row
    → Result QuestionSeen Refusal
question_by None pieces rows = ok_as of_columns (columns_in pieces rows)
question_by (Some file) pieces rows = file_alone file (beside_query pieces rows)

-- what options ask
abbrev pub question_in : List Row → Result QuestionSeen Refusal
question_in rows = question_by (first_of (codes "query") rows) (pieces_in rows) rows

-- the files that are read: standard input where none is named
abbrev pub files_in : Option (List (List ℕ)) → List (List ℕ)
files_in None = codes "-" ∷ []
files_in (Some files) = files

-- what options and files ask
abbrev pub asked_in : List Row → Result AskedSeen Refusal
asked_in rows =
    on_ok (λ question.
    on_ok (λ format.
    on_ok (λ workers.
    ok_as (λ partitions. record {
      question = question;
      format = format;
      workers = workers;
      partitions = unwrap_or partitions 16;
      spill_dir = first_of (codes "spill-dir") rows;
      files = files_in (all_of (codes "files") rows);
    })
    (number_of 1 4096 (codes "partitions") rows))
    (number_of 1 256 (codes "workers") rows))
    (format_of (first_of (codes "format") rows)))
    (question_in rows)

-- what words come to: something is asked, they are refused, or `clap` ends with an answer of one of
-- these kinds
pub data Words : Type 0 where
  ask : AskedSeen → Words
  refused : Refusal → Words
  ended : Kinds → Words

-- what is asked, or why words are refused
abbrev pub ask_or : Result AskedSeen Refusal → Words
ask_or (Ok a) = ask a
ask_or (Err r) = refused r

-- the same by what `clap` finds
abbrev pub words_by : Found → Words
words_by (taken rows) = ask_or (asked_in rows)
words_by (stops kinds) = ended kinds

-- what words come to
abbrev pub asked_of : List (List ℕ) → Words
asked_of words = words_by (found_in (joined words))

-- whether a kind of answer is a fault of words: neither help nor the version
abbrev pub is_fault : ErrorKind → Bool
is_fault kind.DisplayHelp = false
is_fault kind.DisplayVersion = false
is_fault _ = true

-- `clap` ends with an answer of a kind
abbrev pub EndedBy : (ErrorKind → Type 0) → Words → Type 0
EndedBy P (ask a) = ⊥
EndedBy P (refused r) = ⊥
EndedBy P (ended kinds) = (k : ErrorKind) × IsAmong k kinds × P k

-- what was read is what words come to
abbrev pub IsReading : Reading → Words → Type 0
IsReading (reading.Asked a) w = w ≡ ask (asked_seen a)
IsReading (reading.Refused r) w = w ≡ refused r
IsReading (reading.Help text) w = EndedBy (λ k. k ≡ kind.DisplayHelp) w
IsReading (reading.Version text) w = EndedBy (λ k. k ≡ kind.DisplayVersion) w
IsReading (reading.Faulty text) w = EndedBy (λ k. is_fault k ≡ true) w
