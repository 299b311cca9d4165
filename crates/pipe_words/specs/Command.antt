-- The command line, as `clap` reads it.
use Rattle.std.specs.Prelude.{ℕ, Bool, true, false, List, [], ◌∷◌, Option, Some, None, codes, if◌then◌else◌, unwrap_or}
use Rattle.clap.specs.Words.{App, Kinds, Row, Rule, all_of, fault_of, matches_of, new_app, new_rule, with_rule}
use Rattle.clap.specs.Simple.{on_top}
use Rattle.clap.specs.declared.builder.action.ArgAction.TheVariants.{Append, Set}

-- an option of a name: it has one value, and stands once at most
abbrev pub option_rule : List ℕ → Rule
option_rule name = record (new_rule name) { long = Some name; action = Some Set }

-- the words that belong to no option
abbrev pub words_rule : Rule
words_rule = record (new_rule (codes "words")) { action = Some Append }

-- the program without options, whose own name isn't among its words
abbrev pub bare_app : App
bare_app = on_top (λ s. record s { no_binary_name = true }) (new_app (codes "group_tool"))

-- a command with one option more
abbrev pub with_option : App → List ℕ → App
with_option app name = with_rule app (option_rule name)

-- the options of workers
abbrev pub worker_app : App
worker_app =
    with_option (with_option (with_option (with_option (with_option (with_option
    (with_option bare_app (codes "workers")) (codes "partitions")) (codes "spill-size"))
    (codes "buffer")) (codes "payloads")) (codes "actions")) (codes "spill-dir")

-- the same with the options of rows
abbrev pub row_app : App
row_app =
    with_option (with_option (with_option worker_app (codes "chunk")) (codes "rows"))
    (codes "generate")

-- the command: its options, and then its words
abbrev pub tool_app : App
tool_app = with_rule (with_option (with_option row_app (codes "sink")) (codes "format")) words_rule

-- whether no kind of fault is listed
abbrev pub is_faultless : Kinds → Bool
is_faultless [] = true
is_faultless (k ∷ ks) = false

-- what the command finds in words, where it takes them
abbrev pub found_in : List (List ℕ) → Option (List Row)
found_in words =
    if is_faultless (fault_of tool_app words) then Some (matches_of tool_app words) else None

-- the words that belong to no option
abbrev pub words_in : List Row → List (List ℕ)
words_in rows = unwrap_or (all_of (codes "words") rows) []
