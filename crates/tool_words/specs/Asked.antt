-- What the words of a command ask for.
use Rattle.std.specs.Prelude.{◌≡◌, Bool, true, false, ℕ, List, [], ◌∷◌, codes, Option, Some, None, if◌then◌else◌, Result, Ok, Err, unwrap_or, ⊤}
use Rattle.pipe_columns.specs.declared.data_type.DataType.{DataType}
use Rattle.pipe_columns.specs.DataType.{is_integer, is_string}
use Rattle.pipe_model.specs.Output.{key_types}
use Rattle.pipe_model.specs.Query.{QueryTree}
use Rattle.pipe_plan.specs.declared.limits.SinkKind.{SinkKind}
use Rattle.pipe_plan.specs.declared.limits.SinkKind.TheVariants as sink_kind
use Rattle.pipe_words.specs.Plans.{plan_of, PlanSeen}
use Rattle.tool_made.specs.MadeQuery.{made_tree}
use Rattle.tool_made.specs.declared.made.Made.{Made}
use Rattle.tool_query.specs.QueryWord.{word_query}
use Rattle.tool_query.specs.declared.no_query.NoQuery.{NoQuery}
use Rattle.tool_words.specs.declared.refusal.AskError.{AskError}
use Rattle.tool_words.specs.declared.refusal.AskError.TheVariants as ask_error
use Rattle.tool_words.specs.declared.refusal.Refusal.{Refusal}
use Rattle.tool_words.specs.declared.refusal.Refusal.TheVariants as refusal

-- what the words of a command may ask for
pub data Asked : Type 0 where
  -- nothing: they are refused
  refused : Refusal → Asked
  -- the answer of a query without fault over files, by a plan
  asks : PlanSeen → QueryTree → Asked
  -- the lines that tell of a run over generated rows, by a plan
  makes : PlanSeen → Made → Asked

-- whether there is one type, and a test holds of it
abbrev pub is_sole : (DataType → Bool) → List DataType → Bool
is_sole test [] = false
is_sole test (t ∷ []) = test t
is_sole test (t ∷ u ∷ more) = false

-- whether a sink keeps keys of these types: a typed sink keeps one key of its kind
abbrev pub does_keep : SinkKind → List DataType → Bool
does_keep sink_kind.Generic types = true
does_keep sink_kind.Primitive types = is_sole is_integer types
does_keep sink_kind.Text types = is_sole is_string types

-- a query, or the refusal of words whose query is none
abbrev pub query_or : Result QueryTree NoQuery → Result QueryTree Refusal
query_or (Ok q) = Ok q
query_or (Err why) = Err (refusal.NoQuery why)

-- the query of a run: over generated rows the one that they are asked, and else the first of the words
-- that belong to no option, as JSON
abbrev pub run_query : Option ℕ → List (List ℕ) → Result QueryTree Refusal
run_query (Some seed) words = Ok made_tree
run_query None [] = Err refusal.Words
run_query None (query ∷ files) = query_or (word_query query)

-- the rows that a plan generates from a seed
abbrev pub made_rows : PlanSeen → ℕ → Made
made_rows p seed = record { seed = seed; rows = unwrap_or p.rows 0; chunk = p.chunk }

-- what a plan asks of a query: the lines of a run over generated rows, where it has a seed, and else
-- the answer over files
abbrev pub asks_from : Option ℕ → PlanSeen → QueryTree → Asked
asks_from None p q = asks p q
asks_from (Some seed) p q = makes p (made_rows p seed)

-- what is asked by a plan of a query, whose keys must be such as the plan's sink keeps
abbrev pub asks_of : PlanSeen → Result QueryTree Refusal → Asked
asks_of p (Err r) = refused r
asks_of p (Ok q) =
    if does_keep p.limits.sink (key_types q) then asks_from p.generate p q
    else refused refusal.UnfitSink

-- what a plan asks for, if the words say one
abbrev pub plan_asks : Option PlanSeen → Asked
plan_asks None = refused refusal.Words
plan_asks (Some p) = asks_of p (run_query p.generate p.words)

-- what the words of a command ask for
abbrev pub asked : List (List ℕ) → Asked
asked words = plan_asks (plan_of words)

-- whether words are refused
abbrev pub is_refused : Asked → Bool
is_refused (refused r) = true
is_refused (asks p q) = false
is_refused (makes p m) = false

-- whether no file is read: words are refused, or rows are generated
abbrev pub reads_none : Asked → Bool
reads_none (refused r) = true
reads_none (asks p q) = false
reads_none (makes p m) = true

-- the names of the files that are read: those behind the query, or standard input where none is named
abbrev pub files_named : List (List ℕ) → List (List ℕ)
files_named [] = []
files_named (query ∷ []) = codes "-" ∷ []
files_named (query ∷ name ∷ names) = name ∷ names

-- why no question is read: words are refused for this; nothing is said of want of memory
abbrev pub IsRefusedFor : AskError → Asked → Type 0
IsRefusedFor (ask_error.Refused r) a = a ≡ refused r
IsRefusedFor ask_error.Memory a = ⊤
