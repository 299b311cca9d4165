-- What a sink gives: the answer over the rows of the chunks taken.
use Rattle.std.proofs.Common.{◌≡◌, ◌∙◌, ℕ, ◌+◌, true, false, List, [], ◌∷◌, map, get_or, Option, refl, ap, subst}
use Rattle.std.specs.List.{All}
use Rattle.std.specs.declared.cmp.Ordering.{Ordering}
use Rattle.std.proofs.lemmas.List.Elements.{All-append, All-head, All-map, All-nil, All-tail, All-weaker}
use Rattle.pipe_columns.specs.declared.any_value.AnyValue.{AnyValue}
use Rattle.pipe_columns.specs.declared.data_chunk.DataChunk.{DataChunk}
use Rattle.pipe_columns.specs.declared.place.Place.{Place}
use Rattle.pipe_columns.specs.Frame.{fields_of, FitsSchema, frame_of, FrameData, HoldsTypes}
use Rattle.pipe_columns.specs.Groups.{IsExactOn, sorted_keys}
use Rattle.pipe_columns.specs.Key.{code, partition}
use Rattle.pipe_columns.specs.Row.{Row}
use Rattle.pipe_columns.specs.Slice.{sliced}
use Rattle.pipe_columns.proofs.AscendingFacts.{any_keys, AnyKey, exact_on, sorted_are, sorted_sole, sorted-ascending, sorted-from, sorted-has_on, sorted-holds}
use Rattle.pipe_columns.proofs.ElementFacts.{has-same, same_elements, same-has}
use Rattle.pipe_columns.proofs.ValueOrder.{tuples_total}
use Rattle.pipe_aggs.specs.CheckedQuery.{IsSound}
use Rattle.pipe_aggs.specs.declared.query.Query.{Query}
use Rattle.pipe_aggs.specs.QueryTrees.{query_tree}
use Rattle.pipe_inputs.specs.RowTypes.{IsRowOf}
use Rattle.pipe_inputs.proofs.TypeFacts.{chunk-typed}
use Rattle.pipe_model.specs.Answer.{answer_of, answer_row, groups, partition_cmp, tuple_cmp}
use Rattle.pipe_model.specs.Groupable.{IsGroupable}
use Rattle.pipe_model.specs.Output.{key_types, output_schema}
use Rattle.pipe_model.specs.Query.{QueryTree}
use Rattle.pipe_model.specs.Rows.{chunk_rows}
use Rattle.pipe_model.proofs.KeyFacts.{partition-tie, partition-total}
use Rattle.pipe_spill.specs.KeyTypes.{AreOfTypes}
use Rattle.pipe_groups.specs.Given.{IsFrameOfGroups}
use Rattle.pipe_groups.specs.Holds.{Holds}
use Rattle.pipe_groups.specs.Placed.{HaveFirstsApart, in_order_of_parts, IsFrameByRow, key_places, rows_by_place}
use Rattle.pipe_groups.specs.QueryRows.{HoldRowsOf}
use Rattle.pipe_groups.specs.Shape.{Shape}
use Rattle.pipe_groups.proofs.AnswerFacts.{sliced-map, tuples_of}
use Rattle.pipe_groups.proofs.ByPlaceAnswer.{by_part-frame, by_row-answer, firsts-apart}
use Rattle.pipe_groups.proofs.ByPlaceFacts.{by_key-same}
use Rattle.pipe_groups.proofs.FrameRows.{answer_row-length, frame-fields}
use Rattle.pipe_sinks.specs.PartPlaces.{part_places}
use Rattle.pipe_sinks.specs.RunLayout.{AreTakenChunks, HoldsChunks, spilled_rows}
use Rattle.pipe_sinks.specs.Runs.{placed_rows}
use Rattle.pipe_keyed.specs.Tables.{IsTable, Table}
use Rattle.pipe_sinks.proofs.PartPlaceFacts.{rows-by_part}

-- the rows of chunks are of the query's types
placed-typed : (x : Query) (taken : List DataChunk) → IsSound x → All (λ c. FitsSchema x.schema c.frame) taken → All (λ c. HoldsTypes c.frame) taken → All (IsRowOf (query_tree x)) (placed_rows (query_tree x) taken)
placed-typed x [] sound are hold = All-nil (IsRowOf (query_tree x))
placed-typed x (c ∷ cs) sound are hold =
    All-append (IsRowOf (query_tree x)) (chunk_rows (query_tree x) c.chunk_index c.frame) (placed_rows (query_tree x) cs)
    (chunk-typed x c.chunk_index c.frame sound (All-head (λ (d : DataChunk). FitsSchema x.schema d.frame) c cs are) (All-head (λ (d : DataChunk). HoldsTypes d.frame) c cs hold))
    (placed-typed x cs sound (All-tail (λ (d : DataChunk). FitsSchema x.schema d.frame) c cs are) (All-tail (λ (d : DataChunk). HoldsTypes d.frame) c cs hold))

-- the distinct keys of rows, in their order
abbrev keys_in_order : List Row → List (List AnyValue)
keys_in_order rs = sorted_keys tuple_cmp (tuples_of rs)

-- where order is kept the answer is the same for each number of partitions
kept-any : (q : QueryTree) (rs : List Row) (m n : ℕ) → q.keeps_order ≡ true → answer_of rs q m ≡ answer_of rs q n
kept-any q rs m n kept = rw kept refl

-- ---- rows by the partitions of their keys

module _ (q : QueryTree) (rs : List Row) (n : ℕ) (typed : All (IsRowOf q) rs) where
  abbrev by_part : List AnyValue → List AnyValue → Ordering
  by_part = partition_cmp n (key_types q)

  exact : IsExactOn AnyKey by_part
  exact = exact_on by_part (partition-total n (key_types q)) (partition-tie n (key_types q))

  -- the keys in order sort by partition as those of the rows
  part-sorted : sorted_keys by_part (keys_in_order rs) ≡ sorted_keys by_part (tuples_of rs)
  part-sorted =
      sorted_sole AnyKey by_part exact (tuples_of rs) (sorted_keys by_part (keys_in_order rs)) (any_keys (tuples_of rs)) (record {
        ascending = (sorted_are AnyKey by_part exact (keys_in_order rs) (any_keys (keys_in_order rs))).ascending;
        same = same_elements (sorted_keys by_part (keys_in_order rs)) (tuples_of rs)
            (λ k m. same-has (keys_in_order rs) (tuples_of rs) (by_key-same rs) k (sorted-from by_part k (keys_in_order rs) m))
            (λ k m. sorted-has_on AnyKey by_part exact k (keys_in_order rs) (any_keys (keys_in_order rs)) (has-same (keys_in_order rs) (tuples_of rs) (by_key-same rs) k m));
      })

  -- each key in order is of the key types
  keys-typed : All (AreOfTypes (key_types q)) (keys_in_order rs)
  keys-typed = sorted-holds (AreOfTypes (key_types q)) tuple_cmp (tuples_of rs)
      (All-map (AreOfTypes (key_types q)) (λ (r : Row). r.key) rs (All-weaker (IsRowOf q) (λ r. AreOfTypes (key_types q) r.key) (λ r t. t.key.fit) rs typed))

  -- the places of the keys' codes
  coded-places : (i : ℕ) (ks : List (List AnyValue)) → key_places n i (map (code (key_types q)) ks) ≡ part_places (partition n (key_types q)) i ks
  coded-places i [] = refl
  coded-places i (k ∷ ks) = ap (λ (l : List Place). record { chunk = partition n (key_types q) k; row = i } ∷ l) (coded-places (i + 1) ks)

  -- rows by these places, under the query's slice, are the answer
  placed-answer : q.keeps_order ≡ false → (slice : Option (ℕ × ℕ)) → slice ≡ q.slice → (f : FrameData)
      → f ≡ frame_of (fields_of (frame_of (output_schema q) (map (answer_row q rs) (keys_in_order rs))).columns)
      (sliced slice (rows_by_place (key_places n 0 (map (code (key_types q)) (keys_in_order rs))) (frame_of (output_schema q) (map (answer_row q rs) (keys_in_order rs))))) → f ≡ answer_of rs q n
  placed-answer unordered slice slice_is f e =
      let rows : List (List AnyValue) = map (answer_row q rs) (keys_in_order rs) in
      let fields = frame-fields 0 (output_schema q) rows in
      let places = coded-places 0 (keys_in_order rs) in
      let sorted = rows-by_part (partition n (key_types q)) (keys_in_order rs) (sorted-ascending tuple_cmp tuples_total (tuples_of rs)) by_part (λ a b. refl)
      (output_schema q) (answer_row q rs) (λ m lt. answer_row-length q rs (get_or (keys_in_order rs) m []) (keys-typed m [] lt)) in
      let own : sorted_keys by_part (keys_in_order rs) ≡ groups rs q n = part-sorted ∙ rw unordered refl in
      e
      ∙ (λ i. frame_of (fields i) (sliced (slice_is i) (rows_by_place (places i) (frame_of (output_schema q) rows))))
      ∙ ap (λ (l : List (List AnyValue)). frame_of (output_schema q) (sliced q.slice l)) (sorted ∙ ap (map (answer_row q rs)) own)
      ∙ ap (frame_of (output_schema q)) (sliced-map (answer_row q rs) q.slice (groups rs q n))

-- ---- what is given

-- a table that holds chunks holds the rows of the query
module _ (x : Query) (taken : List DataChunk) (t : Table) (sound : IsSound x) (groupable : IsGroupable (query_tree x)) (chunks : AreTakenChunks (query_tree x) taken)
    (holds : HoldsChunks (query_tree x) taken t) (is : IsTable t) where
  abbrev q : QueryTree
  q = query_tree x

  abbrev rs : List Row
  rs = placed_rows q taken

  rows-typed : All (IsRowOf q) rs
  rows-typed = placed-typed x taken sound chunks.columns chunks.typed

  own : HoldRowsOf q t.groups rs
  own = record {
    groupable = groupable;
    typed = rows-typed;
    apart = is.apart;
    holds = subst (λ (s : Shape). Holds s.prototypes t.groups (spilled_rows q taken)) holds.shape holds.holds;
  }

  -- ---- in the order of first rows

  pub rows-apart : HaveFirstsApart t.groups
  rows-apart = firsts-apart q rs t.groups own chunks.once

  pub row-answer : q.keeps_order ≡ true → (slice : Option (ℕ × ℕ)) (f : FrameData) → slice ≡ q.slice → IsFrameByRow t.shape t.groups slice f → (n : ℕ) → f ≡ answer_of rs q n
  row-answer kept slice f same frame n =
      by_row-answer q rs t.groups own chunks.once kept f
      (subst (λ (s : Shape). IsFrameByRow s t.groups q.slice f) holds.shape (subst (λ (l : Option (ℕ × ℕ)). IsFrameByRow t.shape t.groups l f) same frame))
      ∙ kept-any q rs 1 n kept

  -- ---- by partition

  pub part-answer : q.keeps_order ≡ false → (n : ℕ) (slice : Option (ℕ × ℕ)) (f : FrameData) → slice ≡ q.slice → IsFrameOfGroups t.shape (sliced slice (in_order_of_parts n t.groups)) f → f ≡ answer_of rs q n
  part-answer unordered n slice f same frame =
      placed-answer q rs n rows-typed unordered slice same f
      (by_part-frame q rs t.groups own chunks.once n slice f (subst (λ (s : Shape). IsFrameOfGroups s (sliced slice (in_order_of_parts n t.groups)) f) holds.shape frame))
