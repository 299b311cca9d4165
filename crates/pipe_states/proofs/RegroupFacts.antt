-- States regrouped are the answer of the query with the keys that are kept.
use Rattle.std.proofs.Common.{◌≡◌, ◌∙◌, ℕ, ◌%◌, ◌<◌, true, List, ◌++◌, map, mod-lt, sym, ap, arith}
use Rattle.std.specs.List.{list_any}
use Rattle.std.specs.Ordering.{nat_cmp, ordering_then}
use mathlib.Core.List.{map-map}
use Rattle.pipe_columns.specs.declared.any_value.AnyValue.{AnyValue}
use Rattle.pipe_columns.specs.Frame.{frame_of}
use Rattle.pipe_columns.specs.Groups.{sorted_keys}
use Rattle.pipe_columns.specs.Key.{code, fold_bytes}
use Rattle.pipe_columns.specs.Row.{Row}
use Rattle.pipe_columns.proofs.AscendingFacts.{any_keys, AnyKey, sorted-same}
use Rattle.pipe_model.specs.Aggregate.{reads_places}
use Rattle.pipe_model.specs.Answer.{answer_of, answer_row, groups, partition_cmp, tuple_cmp}
use Rattle.pipe_model.specs.Output.{key_types, output_schema}
use Rattle.pipe_model.specs.Query.{QueryTree}
use Rattle.pipe_model.specs.Rows.{HaveDistinctPlaces, keys_of}
use Rattle.pipe_states.specs.Parts.{kept_rows, Part, rows_of_parts, saved}
use Rattle.pipe_states.specs.Regrouped.{kept, regrouped, regrouped_row, regrouped_rows, rows_of_states, rows_with, with_keys}
use Rattle.pipe_states.specs.States.{state_row, state_rows, tuples_of}
use Rattle.pipe_states.specs.declared.state_row.StateRow.{StateRow}
use Rattle.pipe_states.proofs.MovedEntries.{one_tuple}
use Rattle.pipe_states.proofs.SplitFacts.{whole, with_part}
use Rattle.pipe_states.proofs.TupleFacts.{same_tuples}

-- images by functions that agree
pub map-agree : {A B : Type 0} (f g : A → B) → ((x : A) → f x ≡ g x) → (xs : List A) → map f xs ≡ map g xs
map-agree f g h xs = ap (λ (k : _ → _). map k xs) (λ i x. h x i)

-- the state rows of parts, by a part of their keys, are those of all rows by that part
pub regrouped_rows-are : (q : QueryTree) (part : List AnyValue → List AnyValue) (parts : List Part)
    → (list_any (λ a. reads_places a.kind) q.aggs ≡ true → HaveDistinctPlaces (rows_of_parts parts))
    → regrouped_rows q part (rows_of_states (map (saved q) parts)) ≡ state_rows q (map (with_part part) (rows_of_parts parts))
regrouped_rows-are q part parts d =
    map-agree (λ tuple. regrouped_row q tuple (rows_with part tuple (rows_of_states (map (saved q) parts)))) (state_row q (map (with_part part) (rows_of_parts parts)))
    (λ tuple. one_tuple q part tuple parts d) (sorted_keys tuple_cmp (map (λ r. part r.key) (rows_of_states (map (saved q) parts))))
    ∙ ap (map (state_row q (map (with_part part) (rows_of_parts parts)))) (same_tuples q part parts)

-- of one partition each tuple is in the first
pub in_first : (n : ℕ) → n % 1 ≡ 0
in_first n = let less : n % 1 < 1 = mod-lt n (omega arith) in omega (arith, less)

-- so the groups of one partition come in the order of tuples
pub groups-by_tuple : (q : QueryTree) (keep : List ℕ) (rs : List Row) → groups rs (with_keys q keep) 1 ≡ tuples_of rs
groups-by_tuple q keep rs =
    sorted-same AnyKey (partition_cmp 1 (key_types (with_keys q keep))) tuple_cmp
    (λ a b m n i. ordering_then (nat_cmp (in_first (fold_bytes (code (key_types (with_keys q keep)) a)) i) (in_first (fold_bytes (code (key_types (with_keys q keep)) b)) i)) (tuple_cmp a b))
    (keys_of rs) (any_keys (keys_of rs))

-- the frame of state rows is the answer
pub answer-of_rows : (q : QueryTree) (keep : List ℕ) (rs : List Row) → frame_of (output_schema (with_keys q keep)) (map (λ r. r.key ++ r.results) (state_rows q rs)) ≡ answer_of rs (with_keys q keep) 1
answer-of_rows q keep rs =
    ap (frame_of (output_schema (with_keys q keep)))
    (map-map (λ (r : StateRow). r.key ++ r.results) (state_row q rs) (tuples_of rs)
    ∙ ap (map (answer_row (with_keys q keep) rs)) (sym (groups-by_tuple q keep rs)))

-- states regrouped are the answer of all rows by the keys that are kept
pub regrouped-is : (q : QueryTree) (parts : List Part) (keep : List ℕ)
    → (list_any (λ a. reads_places a.kind) q.aggs ≡ true → HaveDistinctPlaces (rows_of_parts parts))
    → regrouped q (map (saved q) parts) keep ≡ answer_of (kept_rows keep (rows_of_parts parts)) (with_keys q keep) 1
regrouped-is q parts keep d =
    ap (λ (rows : List StateRow). frame_of (output_schema (with_keys q keep)) (map (λ r. r.key ++ r.results) rows)) (regrouped_rows-are q (kept keep) parts d)
    ∙ answer-of_rows q keep (kept_rows keep (rows_of_parts parts))

-- states merged have the state rows of all rows
pub merged_rows-are : (q : QueryTree) (parts : List Part)
    → (list_any (λ a. reads_places a.kind) q.aggs ≡ true → HaveDistinctPlaces (rows_of_parts parts))
    → regrouped_rows q (λ key. key) (rows_of_states (map (saved q) parts)) ≡ state_rows q (rows_of_parts parts)
merged_rows-are q parts d = regrouped_rows-are q (λ key. key) parts d ∙ ap (state_rows q) (whole (rows_of_parts parts))
