-- What calls on saved states in memory ask, in the words of commands on files: each text is a file.
use Rattle.std.specs.Prelude.{◌==◌, ◌<◌, ◌&&◌, ℕ, nat_lt, Bool, List, [], ◌∷◌, length, map, if◌then◌else◌, Option, Some, None, Result, Ok, Err}
use Rattle.std.specs.Fmt.{decimal}
use Rattle.std.specs.List.{range_with_len, sum}
use Rattle.std.specs.Str.{is_utf8}
use Rattle.memory_answer.specs.Answers.{bytes_query}
use Rattle.memory_input.specs.HeldText.{piece_files}
use Rattle.memory_runs.specs.TextRuns.{text_name}
use Rattle.pipe_io.specs.Files.{Files}
use Rattle.pipe_model.specs.Query.{QueryTree}
use Rattle.rollup_words.specs.Asked.{Asked, refused, rolls_by, saves_of, whole_query}
use Rattle.rollup_words.specs.Keys.{kept_positions}
use Rattle.rollup_words.specs.declared.refusal.Refusal.{Refusal}
use Rattle.rollup_words.specs.declared.refusal.Refusal.TheVariants as refusal

-- ---- the state of a text

-- what the bytes of a query and the position of the first chunk ask: the state of one text
abbrev pub save_asked : List ℕ → ℕ → Asked
save_asked query first = saves_of first (text_name ∷ []) (whole_query (bytes_query query))

-- ---- states that stand in one text, one behind another

-- whether lengths are those of pieces, one at least, which are all of a text
abbrev pub are_lengths : List ℕ → List ℕ → Bool
are_lengths lengths text = nat_lt 0 (length lengths) && (sum lengths == length text)

-- the names of so many files: their numbers, from 1 on
abbrev pub number_names : ℕ → List (List ℕ)
number_names count = map decimal (range_with_len 1 count)

-- the files, of which each is a state
abbrev pub state_files : List ℕ → List ℕ → Files
state_files lengths states = piece_files (number_names (length lengths)) lengths states

-- the positions of the key columns that bytes name, as a word of JSON, which is UTF-8
abbrev pub bytes_kept : QueryTree → List ℕ → Option (List ℕ)
bytes_kept q keys = if is_utf8 keys then kept_positions q keys else None

-- what is asked of a query by the bytes of keys: the states in so many files, regrouped
abbrev pub keys_asked : List ℕ → ℕ → Result QueryTree Refusal → Asked
keys_asked keys count (Err r) = refused r
keys_asked keys count (Ok q) = rolls_by q (number_names count) (bytes_kept q keys)

-- what the bytes of a query, those of keys, and states of some lengths ask
abbrev pub roll_asked : List ℕ → List ℕ → List ℕ → List ℕ → Asked
roll_asked query keys lengths states =
    if are_lengths lengths states
    then keys_asked keys (length lengths) (whole_query (bytes_query query))
    else refused refusal.Words
