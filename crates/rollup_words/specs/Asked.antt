-- What the words of a command ask for.
use Rattle.std.specs.Prelude.{◌≡◌, ◌||◌, ℕ, Bool, true, false, List, [], Option, Some, None, is_some, Result, Ok, Err, if◌then◌else◌, ⊤}
use Rattle.pipe_model.specs.Query.{QueryTree}
use Rattle.tool_query.specs.QueryWord.{word_query}
use Rattle.tool_query.specs.declared.no_query.NoQuery.{NoQuery}
use Rattle.rollup_words.specs.Keys.{kept_positions}
use Rattle.rollup_words.specs.Said.{Said, roll, said, save}
use Rattle.rollup_words.specs.declared.refusal.AskError.{AskError}
use Rattle.rollup_words.specs.declared.refusal.AskError.TheVariants as ask_error
use Rattle.rollup_words.specs.declared.refusal.Refusal.{Refusal}
use Rattle.rollup_words.specs.declared.refusal.Refusal.TheVariants as refusal

-- what the words of a command may ask for
pub data Asked : Type 0 where
  -- nothing: they are refused
  refused : Refusal → Asked
  -- the state of the files of some names, by a query without fault; the first chunk has a position
  saves : QueryTree → ℕ → List (List ℕ) → Asked
  -- the states of a query in the files of some names, regrouped by the key columns at some
  -- positions
  rolls : QueryTree → List ℕ → List (List ℕ) → Asked

-- whether a query gives only some of its groups, or in another order than that of their keys
abbrev pub is_sliced : QueryTree → Bool
is_sliced q = is_some q.slice || q.keeps_order

-- a query that gives all its groups in the order of their keys
abbrev pub whole_query : Result QueryTree NoQuery → Result QueryTree Refusal
whole_query (Err why) = Err (refusal.Query why)
whole_query (Ok q) = if is_sliced q then Err refusal.Sliced else Ok q

-- what is asked of a query by a position and names of files
abbrev pub saves_of : ℕ → List (List ℕ) → Result QueryTree Refusal → Asked
saves_of first files (Err r) = refused r
saves_of first files (Ok q) = saves q first files

-- what is asked of a query by positions of keys and names of files
abbrev pub rolls_by : QueryTree → List (List ℕ) → Option (List ℕ) → Asked
rolls_by q files None = refused refusal.Keys
rolls_by q files (Some keep) = rolls q keep files

-- what is asked of a query by a word of keys and names of files
abbrev pub rolls_of : List ℕ → List (List ℕ) → Result QueryTree Refusal → Asked
rolls_of keys files (Err r) = refused r
rolls_of keys files (Ok q) = rolls_by q files (kept_positions q keys)

-- what is asked for by what is said: the query is looked at before the keys
abbrev pub asked_by : Option Said → Asked
asked_by None = refused refusal.Words
asked_by (Some (save query first files)) = saves_of first files (whole_query (word_query query))
asked_by (Some (roll query keys files)) = rolls_of keys files (whole_query (word_query query))

-- what the words of a command ask for
abbrev pub asked : List (List ℕ) → Asked
asked words = asked_by (said words)

-- whether words are refused
abbrev pub is_refused : Asked → Bool
is_refused (refused r) = true
is_refused (saves q first files) = false
is_refused (rolls q keep files) = false

-- the names of the files that are read, in order
abbrev pub files_asked : Asked → List (List ℕ)
files_asked (refused r) = []
files_asked (saves q first files) = files
files_asked (rolls q keep files) = files

-- why no request is read: words are refused for this; nothing is said of want of memory
abbrev pub IsRefusedFor : AskError → Asked → Type 0
IsRefusedFor (ask_error.Refused r) a = a ≡ refused r
IsRefusedFor ask_error.Memory a = ⊤
