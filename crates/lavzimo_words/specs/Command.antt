-- The command line, as `clap` reads it.
use Rattle.std.specs.Prelude.{ℕ, true, List, [], ◌∷◌, Some, codes, fold}
use Rattle.clap.specs.Words.{App, Kinds, Row, Rule, fault_of, matches_of, new_app, new_rule, with_rule}
use Rattle.clap.specs.Simple.{on_top}
use Rattle.clap.specs.declared.builder.action.ArgAction.{ArgAction}
use Rattle.clap.specs.declared.builder.action.ArgAction.TheVariants.{Append, Set, SetTrue}

-- an option of a name that takes a value: once at most (`Set`), or any number of times (`Append`)
abbrev pub option_rule : ArgAction → List ℕ → Rule
option_rule action name =
    record (new_rule name) { long = Some name; action = Some action; value_names = 1 }

-- the option that counts rows, which has no value
abbrev pub count_rule : Rule
count_rule =
    record (new_rule (codes "count")) { long = Some (codes "count"); action = Some SetTrue }

-- the names of files
abbrev pub files_rule : Rule
files_rule = record (new_rule (codes "files")) { action = Some Append; value_names = 1 }

-- the program without options, whose own name isn't among its words
abbrev pub bare_app : App
bare_app =
    on_top (λ s. record s { no_binary_name = true; has_version = true }) (new_app (codes "lavzimo"))

-- a command with options more
abbrev pub with_options : ArgAction → App → List (List ℕ) → App
with_options action app names = fold (λ a name. with_rule a (option_rule action name)) app names

-- the options of columns behind the one that counts rows
abbrev pub column_options : List (List ℕ)
column_options =
    codes "count-of" ∷ codes "sum" ∷ codes "mean" ∷ codes "min" ∷ codes "max" ∷ codes "first"
    ∷ codes "last" ∷ []

-- the options of the answer and of the run
abbrev pub run_options : List (List ℕ)
run_options =
    codes "order" ∷ codes "offset" ∷ codes "limit" ∷ codes "format" ∷ codes "workers"
    ∷ codes "partitions" ∷ codes "spill-dir" ∷ codes "query" ∷ []

-- the command: the keys, what is asked of columns, the answer and the run, and then files
abbrev pub lavzimo_app : App
lavzimo_app =
    with_rule
    (with_options Set
    (with_options Append (with_rule (with_options Append bare_app (codes "by" ∷ [])) count_rule)
    column_options) run_options)
    files_rule

-- what `clap` makes of words: what it finds in them, or it ends with an answer of one of these kinds,
-- which is help, the version or a fault
pub data Found : Type 0 where
  taken : List Row → Found
  stops : Kinds → Found

-- words that no kind of answer is for are taken
abbrev pub found_by : Kinds → List Row → Found
found_by [] rows = taken rows
found_by (k ∷ ks) rows = stops (k ∷ ks)

-- what the command finds in words
abbrev pub found_in : List (List ℕ) → Found
found_in words = found_by (fault_of lavzimo_app words) (matches_of lavzimo_app words)
