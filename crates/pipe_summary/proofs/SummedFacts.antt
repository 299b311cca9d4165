-- What states come to by all keys, under a query's slice, is its answer.
use Rattle.std.proofs.Common.{◌≡◌, ◌∙◌, ℕ, zero, suc, ◌+◌, ◌-◌, ◌<◌, ◌≤◌, min, Bool, false, List, [], ◌∷◌, ◌++◌, length, map, take, drop, All, Option, Some, None, append_assoc, refl, sym, ap, subst, arith, ne_eqb}
use Rattle.std.specs.List.{AllByRecursion, drop-map, flat_map, IsDistinct, range_with_len, slice_get, take-map}
use Rattle.std.specs.Option.{option_to_list}
use Rattle.std.specs.Prelude.{nat_eq}
use Rattle.std.proofs.lemmas.List.{length-append, length-drop, length-take}
use Rattle.std.proofs.lemmas.List.Elements.{All-cons, All-nil}
use Rattle.std.proofs.lemmas.List.FromFn.{length-range_with_len}
use Rattle.pipe_columns.specs.declared.any_value.AnyValue.{AnyValue}
use Rattle.pipe_columns.specs.declared.data_chunk.DataChunk.{DataChunk}
use Rattle.pipe_columns.specs.declared.schema.Field.{Field}
use Rattle.pipe_columns.specs.Frame.{columns_from, frame_of, sliced_column, value_at}
use Rattle.pipe_columns.specs.Row.{Row}
use Rattle.pipe_columns.specs.Slice.{sliced}
use Rattle.pipe_model.proofs.RowPlaces.{rows-distinct}
use Rattle.pipe_model.specs.Answer.{answer, answer_of, answer_row, groups}
use Rattle.pipe_model.specs.Expr.{Expr}
use Rattle.pipe_model.specs.Output.{output_schema}
use Rattle.pipe_model.specs.Query.{QueryTree}
use Rattle.pipe_model.specs.Rows.{HaveDistinctPlaces, rows_from}
use Rattle.pipe_states.proofs.PartFacts.{rows_by_keys, rows_of_all}
use Rattle.pipe_states.proofs.RegroupFacts.{regrouped-is}
use Rattle.pipe_states.specs.Parts.{kept_rows, parts_from}
use Rattle.pipe_states.specs.Regrouped.{with_keys}
use Rattle.pipe_states.specs.States.{StateSeen}
use Rattle.pipe_states.specs.Together.{AreKept}
use Rattle.pipe_summary.specs.InTurn.{AreInTurn}
use Rattle.pipe_summary.specs.Summed.{all_keys, sliced_rows, summed}
use Rattle.pipe_summary.specs.Sums.{run_states, Sums, texts_of}
use Rattle.pipe_summary.proofs.SumFacts.{joined, states-are}

-- ---- all keys

-- the element behind a front
at-front : {X : Type 0} (front rest : List X) (x : X) (n : ℕ) → length front ≡ n → slice_get (front ++ x ∷ rest) n ≡ Some x
at-front [] rest x zero e = refl
at-front [] rest x (suc n) e = absurd (omega (arith, e))
at-front (y ∷ front) rest x zero e = absurd (omega (arith, e))
at-front (y ∷ front) rest x (suc n) e = at-front front rest x n (omega (arith, e))

-- the elements from a position on
from-on : {X : Type 0} (xs front : List X) (n : ℕ) → length front ≡ n → flat_map (λ i. option_to_list (slice_get (front ++ xs) i)) (range_with_len n (length xs)) ≡ xs
from-on [] front n e = refl
from-on (x ∷ xs) front n e =
    let long = length-append front (x ∷ []) in
    (λ i. option_to_list (at-front front xs x n e i)
    ++ flat_map (λ k. option_to_list (slice_get (sym (append_assoc front (x ∷ []) xs) i) k)) (range_with_len (n + 1) (length xs)))
    ∙ ap (λ (l : List _). x ∷ l) (from-on xs (front ++ x ∷ []) (n + 1) (omega (arith, e, long)))

-- a query with all its keys, without a slice and without kept order
with-all : (q : QueryTree) → with_keys q (all_keys q) ≡ record q { slice = None; keeps_order = false }
with-all q = ap (λ (keys : List Expr). record q { keys = keys; slice = None; keeps_order = false }) (from-on q.keys [] 0 refl)

-- positions from one on are below an end, and apart
range-below : (a n m : ℕ) → a + n ≤ m → All (λ i. i < m) (range_with_len a n)
range-below a zero m e = All-nil (λ (i : ℕ). i < m)
range-below a (suc n) m e = All-cons (λ (i : ℕ). i < m) a (range_with_len (a + 1) n) (omega (arith, e)) (range-below (a + 1) n m (omega (arith, e)))

-- all keys are some of them
keys-below : (q : QueryTree) → All (λ i. i < length q.keys) (all_keys q)
keys-below q = range-below 0 (length q.keys) (length q.keys) (omega arith)

-- one position more
pub range-push : (a n m : ℕ) → a + n ≡ m → range_with_len a n ++ m ∷ [] ≡ range_with_len a (n + 1)
range-push a zero m e = ap (λ (k : ℕ). k ∷ []) (omega (arith, e))
range-push a (suc n) m e = ap (λ (l : List ℕ). a ∷ l) (range-push (a + 1) n m (omega (arith, e))) ∙ ap (range_with_len a) {x = suc (n + 1)} {y = suc n + 1} (omega arith)

-- positions from one on differ from those below
range-differs : (k a n : ℕ) → k < a → AllByRecursion (λ i. nat_eq k i ≡ false) (range_with_len a n)
range-differs k a zero lt = tt
range-differs k a (suc n) lt = (ne_eqb k a (λ e. omega (arith, e, lt)), range-differs k (a + 1) n (omega (arith, lt)))

-- so no position stands twice
range-distinct : (a n : ℕ) → IsDistinct nat_eq (range_with_len a n)
unfolding IsDistinct
range-distinct a zero = tt
range-distinct a (suc n) = (range-differs a (a + 1) n (omega arith), range-distinct (a + 1) n)

-- all keys can be kept, if there is one
pub all-kept : (q : QueryTree) → 1 ≤ length q.keys → AreKept q (all_keys q)
all-kept q some = record {
  some = let long = length-range_with_len 0 (length q.keys) in omega (arith, long, some);
  keys = keys-below q;
  distinct = range-distinct 0 (length q.keys);
}

-- ---- a slice of a frame

-- columns of fewer rows
columns-sliced : (s : ℕ × ℕ) (i : ℕ) (fields : List Field) (rows : List (List AnyValue)) → columns_from i fields (sliced (Some s) rows) ≡ map (sliced_column s.0 s.1) (columns_from i fields rows)
columns-sliced s i [] rows = refl
columns-sliced s i (f ∷ fields) rows =
    λ j. record {
      name = f.name;
      dtype = f.dtype;
      sorted = false;
      values = (sym (take-map (λ (row : List AnyValue). value_at row i) s.1 (drop s.0 rows)) ∙ ap (take s.1) (sym (drop-map (λ (row : List AnyValue). value_at row i) s.0 rows))) j;
    } ∷ columns-sliced s (i + 1) fields rows j

-- the frame of the rows that a slice keeps
frame-sliced : (slice : Option (ℕ × ℕ)) (fields : List Field) (rows : List (List AnyValue)) → sliced_rows slice (frame_of fields rows) ≡ frame_of fields (sliced slice rows)
frame-sliced None fields rows = refl
frame-sliced (Some s) fields rows =
    let long : length (take s.1 (drop s.0 rows)) ≡ min s.1 (length rows - s.0) = length-take s.1 (drop s.0 rows) ∙ ap (min s.1) (length-drop s.0 rows) in
    λ j. record { height = sym long j; columns = sym (columns-sliced s 0 fields rows) j }

-- the rows of the groups that a slice keeps
rows-sliced : {X Y : Type 0} (f : X → Y) (slice : Option (ℕ × ℕ)) (xs : List X) → map f (sliced slice xs) ≡ sliced slice (map f xs)
rows-sliced f None xs = refl
rows-sliced f (Some s) xs = sym (take-map f s.1 (drop s.0 xs)) ∙ ap (take s.1) (sym (drop-map f s.0 xs))

-- ---- the answer

-- the answer without a slice, sliced
answer-sliced : (q : QueryTree) (rs : List Row) → q.keeps_order ≡ false → sliced_rows q.slice (answer_of rs (record q { slice = None; keeps_order = false }) 1) ≡ answer_of rs q 1
answer-sliced q rs unordered =
    ap (λ (b : Bool). sliced_rows q.slice (answer_of rs (record q { slice = None; keeps_order = b }) 1)) (sym unordered)
    ∙ frame-sliced q.slice (output_schema q) (map (answer_row q rs) (groups rs q 1))
    ∙ ap (frame_of (output_schema q)) (sym (rows-sliced (answer_row q rs) q.slice (groups rs q 1)))

-- the states of runs come to the answer over all chunks
pub runs-answer : (q : QueryTree) (runs : List (List DataChunk)) → q.keeps_order ≡ false → summed q (run_states q runs) ≡ answer (joined runs) q 1
runs-answer q runs unordered =
    let chunks : List DataChunk = joined runs in
    let keep : List ℕ = all_keys q in
    let whole = rows_of_all q 0 runs in
    let distinct = subst HaveDistinctPlaces (sym whole) (rows-distinct chunks q) in
    let by_keys = rows_by_keys q keep 0 chunks (keys-below q) in
    ap (sliced_rows q.slice)
    (regrouped-is q (parts_from q 0 runs) keep (λ e. distinct)
    ∙ ap (λ (rs : List Row). answer_of rs (with_keys q keep) 1) (ap (kept_rows keep) whole ∙ sym by_keys)
    ∙ ap (λ (p : QueryTree). answer_of (rows_from p 0 chunks) p 1) (with-all q))
    ∙ answer-sliced q (rows_from q 0 chunks) unordered

-- and so do states in turn whose texts sum chunks up
pub frames-answer : (q : QueryTree) (states : List StateSeen) (chunks : List DataChunk) → q.keeps_order ≡ false → AreInTurn q states → Sums q (texts_of q states) chunks → summed q states ≡ answer chunks q 1
frames-answer q states chunks unordered turn s =
    ap (summed q) (states-are q states chunks turn s) ∙ runs-answer q s.runs unordered ∙ ap (λ (l : List DataChunk). answer l q 1) (sym s.joined)
