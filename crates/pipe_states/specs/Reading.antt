-- Of the proofs alone: what a reader of a state finds in front of some bytes.
use Rattle.std.specs.Prelude.{◌≢◌, ℕ, List, [], ◌∷◌, ◌++◌, length, map, All}
use Rattle.std.specs.Int.{bytes_high_first}
use Rattle.pipe_columns.specs.declared.any_value.AnyValue.{AnyValue}
use Rattle.pipe_columns.specs.declared.data_type.DataType.TheVariants as dt
use Rattle.pipe_columns.specs.declared.place.Place.{Place}
use Rattle.pipe_columns.specs.Key.{code, value_code}
use Rattle.pipe_model.specs.Aggregate.{counted}
use Rattle.pipe_model.specs.Output.{key_types}
use Rattle.pipe_model.specs.Query.{QueryTree}
use Rattle.pipe_running.specs.declared.function.AggregateFunction.{AggregateFunction}
use Rattle.pipe_spill.specs.FrameBytes.{frame_bytes, row_bytes}
use Rattle.pipe_spill.specs.KeyTypes.{AreOfTypes, IsTuple}
use Rattle.pipe_spill.specs.SpillRow.{IsRow}
use Rattle.pipe_states.specs.Fair.{IsRowOf}
use Rattle.pipe_states.specs.Forms.{all_result_types, all_saved, all_saved_types}
use Rattle.pipe_states.specs.StateText.{saved_row, state_types}
use Rattle.pipe_states.specs.declared.state_row.StateRow.{StateRow}

-- ---- a row's place and key

-- the bytes of the least place of a row and of its key
abbrev pub key_bytes : Place → List ℕ → List ℕ
key_bytes place key =
    bytes_high_first 4 place.chunk ++ bytes_high_first 4 place.row
    ++ bytes_high_first 8 (length key) ++ key

-- the bytes begin with no place and key
abbrev pub BeginsNoKey : List ℕ → Type 0
BeginsNoKey bytes = (place : Place) (key rest : List ℕ) → key_bytes place key ++ rest ≢ bytes

-- ---- its counts

-- the bytes of a count
abbrev pub count_bytes : ℕ → List ℕ
count_bytes n = value_code dt.UInt32 (counted n)

-- the bytes begin with no count
abbrev pub BeginsNoCount : List ℕ → Type 0
BeginsNoCount bytes = (n : ℕ) (rest : List ℕ) → count_bytes n ++ rest ≢ bytes

-- the bytes of the greatest place of a row and of the number of its rows
abbrev pub counts_bytes : Place → ℕ → List ℕ
counts_bytes last rows =
    code (dt.UInt32 ∷ dt.UInt32 ∷ dt.UInt32 ∷ [])
    (counted last.chunk ∷ counted last.row ∷ counted rows ∷ [])

-- the bytes begin with none
abbrev pub BeginsNoCounts : List ℕ → Type 0
BeginsNoCounts bytes =
    (last : Place) (rows : ℕ) (rest : List ℕ) → counts_bytes last rows ++ rest ≢ bytes

-- ---- its results

-- the bytes of results of running aggregates
abbrev pub results_bytes : List AggregateFunction → List AnyValue → List ℕ
results_bytes fs results = code (all_saved_types fs) (all_saved fs results)

-- results of running aggregates that can be saved
pub record AreResults (fs : List AggregateFunction) (results : List AnyValue) : Type 0 where
  pub typed : AreOfTypes (all_result_types fs) results
  pub saved : IsTuple (all_saved_types fs) (all_saved fs results)

-- the bytes begin with none
abbrev pub BeginsNoResults : List AggregateFunction → List ℕ → Type 0
BeginsNoResults fs bytes =
    (results : List AnyValue) (rest : List ℕ) → AreResults fs results
    → results_bytes fs results ++ rest ≢ bytes

-- ---- the whole row, and rows

-- a state row of a query that can stand in a text
pub record IsTextRow (q : QueryTree) (r : StateRow) : Type 0 where
  pub of_query : IsRowOf q r
  pub saved : IsRow (key_types q) (state_types q) (saved_row q r)

-- the bytes begin with none
abbrev pub BeginsNoStateRow : QueryTree → List ℕ → Type 0
BeginsNoStateRow q bytes =
    (r : StateRow) (rest : List ℕ) → IsTextRow q r
    → row_bytes (state_types q) (saved_row q r) ++ rest ≢ bytes

-- the bytes are the frame of no state rows
abbrev pub IsFrameOfNoState : QueryTree → List ℕ → Type 0
IsFrameOfNoState q bytes =
    (rows : List StateRow) → All (IsTextRow q) rows
    → frame_bytes (state_types q) (map (saved_row q) rows) ≢ bytes
