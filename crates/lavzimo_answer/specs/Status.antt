-- The statuses of a run: when each comes, and how it is told.
use Rattle.std.specs.Prelude.{◌≡◌, ◌⊎◌, ℕ, ◌==◌, nat_lt, Bool, true, List, [], ◌∷◌, length, if◌then◌else◌, Option, Some, None, IfSome, Result, Ok, Err, ⊤}
use Rattle.std.specs.List.{list_any}
use Rattle.clap.specs.Words.{Kinds}
use Rattle.pipe_io.specs.Files.{Files, file_of}
use Rattle.pipe_io.specs.Output.{WroteFront}
use Rattle.pipe_io.specs.declared.whole_file.TheConstants.{MOST_FILE_BYTES}
use Rattle.pipe_model.specs.Query.{QueryTree}
use Rattle.pipe_plan.specs.Run.{StoreSeen}
use Rattle.pipe_source.specs.CsvChunks.{Stop, misfit, too_large}
use Rattle.tool_query.specs.declared.no_query.NoQuery.{NoQuery}
use Rattle.tool_run.specs.Reading.{end_of}
use Rattle.tool_shell.specs.Reports.{Reports}
use Rattle.tool_shell.specs.declared.status.TheConstants.{DAMAGED, DONE, INPUT_FAILED, INPUT_REFUSED, NO_MEMORY, OUTPUT_FAILED, QUERY_REFUSED, STORE_FAILED, TOO_LARGE, WORDS_REFUSED}
use Rattle.lavzimo_run.specs.Jobs.{query_chunks}
use Rattle.lavzimo_words.specs.Asked.{AskedSeen, EndedBy, QuestionSeen, Words, ask, ended, is_fault, of_columns, of_file, refused}
use Rattle.lavzimo_words.specs.AskedQuery.{query_of_words}
use Rattle.lavzimo_answer.specs.Asking.{file_query}
use Rattle.lavzimo_answer.specs.Faults.{IsCaused, IsLineOf, status_of}
use Rattle.lavzimo_answer.specs.Headline.{IsHelp}
use Rattle.lavzimo_answer.specs.declared.fault.Fault.{Fault}
use Rattle.lavzimo_answer.specs.declared.fault.Fault.TheVariants as fault

-- ---- the status that is due

-- the status of an early end of reading
abbrev pub stop_status : Option Stop → ℕ
stop_status None = DONE
stop_status (Some (misfit m)) = INPUT_REFUSED
stop_status (Some too_large) = TOO_LARGE

-- a query, or the status where there is none
abbrev pub query_or : Result QueryTree NoQuery → Result QueryTree ℕ
query_or (Ok q) = Ok q
query_or (Err why) = Err QUERY_REFUSED

-- the query of a file, or the status where there is none
abbrev pub query_in : Option (List ℕ) → Result QueryTree ℕ
query_in None = Err INPUT_REFUSED
query_in (Some text) =
    if nat_lt MOST_FILE_BYTES (length text) then Err TOO_LARGE else query_or (file_query text)

-- the query of a question over files, or the status where there is none
abbrev pub query_due : QuestionSeen → Files → Result QueryTree ℕ
query_due (of_columns c) files = Ok (query_of_words c)
query_due (of_file name) files = query_in (file_of files name)

-- the status that is due for a query over files, or for none
abbrev pub status_by : AskedSeen → Files → Result QueryTree ℕ → ℕ
status_by a files (Ok q) = stop_status (end_of (query_chunks files a.files q))
status_by a files (Err status) = status

-- the status that is due for what is asked over files, where nothing fails
abbrev pub asked_status : AskedSeen → Files → ℕ
asked_status a files = status_by a files (query_due a.question files)

-- `clap` ends with help or the version, which are written, or with a fault
abbrev pub EndsApart : Kinds → ℕ → Type 0
EndsApart kinds status =
    ((status ≡ DONE) × IsHelp (ended kinds))
    ⊎ ((status ≡ WORDS_REFUSED) × EndedBy (λ k. is_fault k ≡ true) (ended kinds))

-- a status is due for what words come to over files
abbrev pub IsDue : ℕ → Words → Files → Type 0
IsDue status (ask a) files = status ≡ asked_status a files
IsDue status (refused r) files = status ≡ WORDS_REFUSED
IsDue status (ended kinds) files = EndsApart kinds status

-- the statuses of what fails outside, and of want of memory
abbrev pub is_failure : ℕ → Bool
is_failure status =
    list_any (λ s. s == status)
    (INPUT_FAILED ∷ OUTPUT_FAILED ∷ STORE_FAILED ∷ DAMAGED ∷ NO_MEMORY ∷ [])

-- where the input tells its files, a status is due, or that of a failure
abbrev pub EndsAsDue : ℕ → Words → Option Files → Type 0
EndsAsDue status w told =
    IfSome told (λ files. IsDue status w files ⊎ (is_failure status ≡ true))

-- what is asked is answered over files, where nothing fails
abbrev pub IsAnswered : Words → Files → Type 0
IsAnswered (ask a) files = asked_status a files ≡ DONE
IsAnswered (refused r) files = ⊥
IsAnswered (ended kinds) files = ⊥

-- ---- words

-- words are refused, or `clap` has a fault for them
abbrev pub AreRefused : Words → Type 0
AreRefused (ask a) = ⊥
AreRefused (refused r) = ⊤
AreRefused (ended kinds) = EndedBy (λ k. is_fault k ≡ true) (ended kinds)

-- how a run ends for words that ask nothing
abbrev pub EndsUnasked : Words → ℕ → Type 0
EndsUnasked (ask a) status = ⊤
EndsUnasked (refused r) status = (status ≡ WORDS_REFUSED) ⊎ (status ≡ NO_MEMORY)
EndsUnasked (ended kinds) status =
    EndsApart kinds status
    ⊎ ((status ≡ OUTPUT_FAILED) × IsHelp (ended kinds))
    ⊎ (status ≡ NO_MEMORY)

-- words ask nothing that is read
abbrev pub AskNothing : Words → Type 0
AskNothing (ask a) = ⊥
AskNothing (refused r) = ⊤
AskNothing (ended kinds) = ⊤

-- ---- statuses

-- the statuses with which a run ends
abbrev pub is_status : ℕ → Bool
is_status status =
    list_any (λ s. s == status)
    (DONE ∷ WORDS_REFUSED ∷ QUERY_REFUSED ∷ INPUT_REFUSED ∷ INPUT_FAILED ∷ OUTPUT_FAILED
    ∷ TOO_LARGE ∷ STORE_FAILED ∷ DAMAGED ∷ NO_MEMORY ∷ [])

-- the statuses of a run that writes nothing
abbrev pub is_unwritten : ℕ → Bool
is_unwritten status =
    list_any (λ s. s == status)
    (WORDS_REFUSED ∷ QUERY_REFUSED ∷ INPUT_REFUSED ∷ INPUT_FAILED ∷ TOO_LARGE ∷ STORE_FAILED
    ∷ DAMAGED ∷ [])

-- ---- what is reported

-- a fault is told by a line; where the output's reader is gone, by none
abbrev pub IsTold : Fault → ℕ → ℕ → Option (List ℕ) → Option (List ℕ) → Type 0
IsTold fault.OutputFailed before now old new =
    ((now ≡ before) × (new ≡ old))
    ⊎ ((line : List ℕ) × IsLineOf fault.OutputFailed line × Reports line before now old new)
IsTold f before now old new = (line : List ℕ) × IsLineOf f line × Reports line before now old new

-- a fault that has its cause was reported by its status and its line
pub record ReportsFault
    (processors : ℕ) (w : Words) (told : Option Files) (stores : List StoreSeen)
    (status before now : ℕ) (old new : Option (List ℕ)) : Type 0 where
  pub fault : Fault
  pub cause : IsCaused processors fault w told stores
  pub status_is : status_of fault ≡ status
  pub line : IsTold fault before now old new

-- a front of the line of one fault was reported
pub record ReportsFront (old new : Option (List ℕ)) : Type 0 where
  pub fault : Fault
  pub line : List ℕ
  pub line_is : IsLineOf fault line
  pub front : WroteFront old new line
