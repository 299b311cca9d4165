-- What the words of a command ask of a summary.
use Rattle.std.specs.Prelude.{◌≡◌, ℕ, Bool, true, false, List, [], Option, Some, None, Result, Ok, Err, if◌then◌else◌, ⊤}
use Rattle.pipe_model.specs.Query.{QueryTree}
use Rattle.tool_query.specs.QueryWord.{word_query}
use Rattle.tool_query.specs.declared.no_query.NoQuery.{NoQuery}
use Rattle.summary_words.specs.Said.{add, Said, said, show}
use Rattle.summary_words.specs.declared.refusal.AskError.{AskError}
use Rattle.summary_words.specs.declared.refusal.AskError.TheVariants as ask_error
use Rattle.summary_words.specs.declared.refusal.Refusal.{Refusal}
use Rattle.summary_words.specs.declared.refusal.Refusal.TheVariants as refusal

-- what the words of a command may ask for
pub data Asked : Type 0 where
  -- nothing: they are refused
  refused : Refusal → Asked
  -- that the files of some names are added, by a query without fault
  adds : QueryTree → List (List ℕ) → Asked
  -- that the answer of such a query is shown
  shows : QueryTree → Asked

-- a query that doesn't keep the order of rows
abbrev pub unordered_query : Result QueryTree NoQuery → Result QueryTree Refusal
unordered_query (Err why) = Err (refusal.Query why)
unordered_query (Ok q) = if q.keeps_order then Err refusal.Ordered else Ok q

-- what is asked of a query by names of files
abbrev pub adds_of : List (List ℕ) → Result QueryTree Refusal → Asked
adds_of files (Err r) = refused r
adds_of files (Ok q) = adds q files

-- what is asked of a query alone
abbrev pub shows_of : Result QueryTree Refusal → Asked
shows_of (Err r) = refused r
shows_of (Ok q) = shows q

-- what is asked for by what is said
abbrev pub asked_by : Option Said → Asked
asked_by None = refused refusal.Words
asked_by (Some (add query files)) = adds_of files (unordered_query (word_query query))
asked_by (Some (show query)) = shows_of (unordered_query (word_query query))

-- what the words of a command ask for
abbrev pub asked : List (List ℕ) → Asked
asked words = asked_by (said words)

-- whether words are refused
abbrev pub is_refused : Asked → Bool
is_refused (refused r) = true
is_refused (adds q files) = false
is_refused (shows q) = false

-- the names of the files that are read, in order
abbrev pub files_asked : Asked → List (List ℕ)
files_asked (refused r) = []
files_asked (adds q files) = files
files_asked (shows q) = []

-- why no request is read: words are refused for this; nothing is said of want of memory
abbrev pub IsRefusedFor : AskError → Asked → Type 0
IsRefusedFor (ask_error.Refused r) a = a ≡ refused r
IsRefusedFor ask_error.Memory a = ⊤

-- whether files are added
abbrev pub is_adding : Asked → Bool
is_adding (refused r) = false
is_adding (adds q files) = true
is_adding (shows q) = false
