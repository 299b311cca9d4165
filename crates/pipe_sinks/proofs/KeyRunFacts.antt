-- Rows of a chunk that follow one another and have one key: what is spilled of them.
use Rattle.std.proofs.Common.{◌≡◌, ◌∙◌, ℕ, zero, suc, ◌+◌, ◌<◌, ◌≤◌, Bool, true, false, if◌then◌else◌, List, [], ◌∷◌, map, length, take, drop, get_or, set, Some, None, refl, sym, ap, arith}
use Rattle.std.specs.List.{All, IsDistinct}
use Rattle.std.specs.Str.{bytes_eq}
use Rattle.std.proofs.lemmas.List.{drop_more, get_or-drop, get_or-take, get_or_default, length-drop, length-map, length-take-le}
use Rattle.std.proofs.lemmas.List.Elements.{All-cons, All-from_get_or, All-head, All-map, All-nil, All-set, All-tail}
use Rattle.std.proofs.lemmas.Option.{unwrap_or-slice_get}
use Rattle.pipe_columns.specs.declared.data_type.DataType.{DataType}
use Rattle.pipe_columns.specs.Key.{code}
use Rattle.pipe_columns.specs.Row.{Row}
use Rattle.pipe_inputs.specs.ChunkRows.{no_row, row_at}
use Rattle.pipe_inputs.specs.RowRuns.{run_inputs}
use Rattle.pipe_running.specs.declared.function.AggregateFunction.{AggregateFunction}
use Rattle.pipe_running.specs.GroupStates.{fresh_states, SameKinds}
use Rattle.pipe_running.specs.Runs.{placed}
use Rattle.pipe_running.proofs.GroupStateFacts.{group-fresh}
use Rattle.pipe_spill.specs.KeyTypes.{AreOfTypes}
use Rattle.pipe_spill.specs.SpillRow.{AreRows, IsRow, spilled}
use Rattle.pipe_spill.specs.declared.spill_row.SpillRow.{SpillRow}
use Rattle.pipe_groups.specs.Groups.{Group, group_of, has_rows, group_keys, no_group, RowlessAreFresh}
use Rattle.pipe_groups.specs.Holds.{entries_of, FoundStands, Holds, of_key}
use Rattle.pipe_groups.specs.Shape.{Shape}
use Rattle.pipe_groups.proofs.PutFacts.{held_at-at}
use Rattle.pipe_sinks.specs.KeyRuns.{IsRun, run_rows}

-- one of the rows
pub run-at : (rows : List Row) (row len k : ℕ) (d : Row) → row + len ≤ length rows → k < len → get_or (take len (drop row rows)) k d ≡ row_at rows (row + k)
run-at rows row len k d le lt =
    let short : length (take len (drop row rows)) ≡ len = length-take-le len (drop row rows) (omega (arith, le, length-drop row rows)) in
    get_or-take len (drop row rows) k d lt ∙ get_or-drop row rows k d ∙ default (row + k) (omega (arith, le, lt)) ∙ sym (unwrap_or-slice_get rows (row + k) no_row) where
      default : (n : ℕ) → n < length rows → get_or rows n d ≡ get_or rows n no_row
      default n l = get_or_default rows n d no_row l

-- so many are spilled
pub length-many : (s : Shape) (rows : List Row) (row len : ℕ) → row + len ≤ length rows → length (run_rows s.key_types rows row len) ≡ len
length-many s rows row len le =
    length-map (take len (drop row rows)) (spilled s.key_types) ∙ length-take-le len (drop row rows) (omega (arith, le, length-drop row rows))

-- their inputs are of the input types
pub typed-inputs : (s : Shape) (rows : List Row) (row len : ℕ) → AreRows s.key_types s.input_types (run_rows s.key_types rows row len) → All (AreOfTypes s.input_types) (run_inputs rows row len)
typed-inputs s rows row len h = by (take len (drop row rows)) h where
  by : (rs : List Row) → AreRows s.key_types s.input_types (map (spilled s.key_types) rs) → All (AreOfTypes s.input_types) (map (λ r. r.inputs) rs)
  by [] t = All-nil (AreOfTypes s.input_types)
  by (r ∷ rs) t =
      All-cons (AreOfTypes s.input_types) r.inputs (map (λ x. x.inputs) rs) (All-head (IsRow s.key_types s.input_types) (spilled s.key_types r) (map (spilled s.key_types) rs) t).inputs.of_types
      (by rs (All-tail (IsRow s.key_types s.input_types) (spilled s.key_types r) (map (spilled s.key_types) rs) t))

-- they have one key
pub run-keys : (s : Shape) (rows : List Row) (row len : ℕ) → IsRun s rows row len → All (λ r. r.key ≡ code s.key_types (row_at rows row).key) (run_rows s.key_types rows row len)
run-keys s rows row len run =
    let part : List Row = take len (drop row rows) in
    let P : SpillRow → Type 0 = λ r. r.key ≡ code s.key_types (row_at rows row).key in
    All-map P (spilled s.key_types) part (All-from_get_or (λ (r : Row). P (spilled s.key_types r)) part no_row (λ k lt.
    let short : k < len = omega (arith, lt, length-take-le len (drop row rows) (omega (arith, run.there, length-drop row rows))) in
    ap (λ (r : Row). code s.key_types r.key) (run-at rows row len k no_row run.there short) ∙ ap (code s.key_types) (run.same (row + k) (omega arith) (omega (arith, short)))))

entries-from : (types : List DataType) (rows : List Row) (chunk m n : ℕ) → n + m ≤ length rows → ((i : ℕ) → i < length rows → (row_at rows i).place ≡ record { chunk = chunk; row = i })
    → entries_of (run_rows types rows n m) ≡ placed chunk n (run_inputs rows n m)
entries-from types rows chunk zero n le at = refl
entries-from types rows chunk (suc m) n le at =
    let lt : n < length rows = omega (arith, le) in
    let cut : drop n rows ≡ row_at rows n ∷ drop (n + 1) rows = drop_more rows n no_row lt ∙ ap (λ (r : Row). r ∷ drop (n + 1) rows) (sym (unwrap_or-slice_get rows n no_row)) in
    let rest = entries-from types rows chunk m (n + 1) (omega (arith, le)) at in
    rw cut (λ k. (at n lt k, (row_at rows n).inputs) ∷ rest k)

-- and stand at the places of the run
pub run-entries : (s : Shape) (rows : List Row) (row len : ℕ) → IsRun s rows row len → entries_of (run_rows s.key_types rows row len) ≡ placed (row_at rows row).place.chunk row (run_inputs rows row len)
run-entries s rows row len run = entries-from s.key_types rows (row_at rows row).place.chunk len row run.there run.at

-- ---- the running aggregates of a group

-- of a table's group they are of the prototypes' kinds
pub group-kinds : (ps : List AggregateFunction) (gs : List Group) (i : ℕ) → IsDistinct bytes_eq (group_keys gs) → RowlessAreFresh ps gs → i < length gs → (rows : List SpillRow) → Holds ps gs rows
    → SameKinds ps (group_of gs i).states
group-kinds ps gs i apart fresh lt rows h =
    by (has_rows (group_of gs i)) refl (rw (held_at-at (group_of gs i).key gs i apart lt refl) at (h.at (group_of gs i).key)) where
      by : (b : Bool) → has_rows (group_of gs i) ≡ b → FoundStands ps (if has_rows (group_of gs i) then Some (group_of gs i) else None) (of_key (group_of gs i).key rows) → SameKinds ps (group_of gs i).states
      by true e f = (rw e at f).kinds
      by false e f = rw (fresh i no_group lt e) (group-fresh ps).kinds

-- a group in place of another leaves those without rows fresh
pub fresh-set : (ps : List AggregateFunction) (gs : List Group) (i : ℕ) (g : Group) → RowlessAreFresh ps gs → (has_rows g ≡ false → g.states ≡ fresh_states ps) → RowlessAreFresh ps (set gs i g)
fresh-set ps gs i g fresh own = All-set (λ x. has_rows x ≡ false → x.states ≡ fresh_states ps) gs i g own fresh
