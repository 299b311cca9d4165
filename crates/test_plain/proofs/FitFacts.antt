-- The rows of an answer fit its fields.
use Rattle.std.proofs.Common.{◌≡◌, ◌∙◌, ℕ, zero, suc, ◌+◌, ◌<◌, ◌^◌, true, List, [], ◌∷◌, ◌++◌, length, map, get_or, drop, Option, Some, None, Vec, Global, refl, sym, subst, arith}
use Rattle.std.specs.Cmp.Derive as derive
use Rattle.std.specs.List.{All, flat_map, list_all, range_with_len}
use Rattle.std.proofs.lemmas.List.{length-map}
use Rattle.std.proofs.lemmas.List.Elements.{All-append, All-cons, All-drop, All-head, All-map, All-nil, All-tail, All-take, All-weaker}
use Rattle.std.proofs.lemmas.Bool.{and_parts}
use Rattle.pipe_columns.specs.declared.any_value.AnyValue.{AnyValue}
use Rattle.pipe_columns.specs.declared.data_chunk.DataChunk.{DataChunk}
use Rattle.pipe_columns.specs.declared.place.Place.{Place}
use Rattle.pipe_columns.specs.declared.schema.Field.{Field}
use Rattle.pipe_columns.specs.AnyValue.{fits}
use Rattle.pipe_columns.specs.Frame.{all_fit, FitsSchema, FrameData, value_at, HoldsTypes}
use Rattle.pipe_columns.specs.Groups.{IsAscending, sorted_keys}
use Rattle.pipe_columns.specs.Place.{place_cmp}
use Rattle.pipe_columns.specs.Row.{Row}
use Rattle.pipe_columns.specs.Slice.{sliced}
use Rattle.pipe_model.specs.Expr.{Expr, name_of}
use Rattle.pipe_model.specs.Groupable.{IsGroupable, is_suited, is_valued}
use Rattle.pipe_aggs.specs.HashAggs.{prototypes}
use Rattle.pipe_model.specs.Output.{agg_fields, input_type, key_types, output_schema}
use Rattle.pipe_model.specs.Query.{AggTree, QueryTree}
use Rattle.pipe_model.specs.Typing.{known_type}
use Rattle.pipe_model.specs.Value.{value}
use Rattle.pipe_model.specs.Answer.{aggs_from, answer_row, groups, rows_at, tuple_cmp}
use Rattle.pipe_model.specs.Rows.{AreChunksOf, chunk_rows, row_of, rows, rows_from}
use Rattle.test_plain.specs.declared.groups.Group.{Group}
use Rattle.test_plain.specs.Fits.{RowFits, RowsFit}
use Rattle.test_plain.specs.Running.{group_seen, starts, with_rows}
use Rattle.pipe_spill.specs.KeyTypes.{AreOfTypes}
use Rattle.test_plain.proofs.AnswerFacts.{EntriesFit, entries-fit, key-entries-fit, key-places-ascend, others-fit, table_is}
use Rattle.pipe_columns.proofs.AscendingFacts.{sorted-holds}
use Rattle.test_plain.proofs.BuiltFacts.{built-fits}
use Rattle.test_plain.proofs.ChunkFacts.{length-rows_from}
use Rattle.test_plain.proofs.EntryFacts.{distinct-at, Entries, entries_at, rows_at-few}
use Rattle.pipe_inputs.proofs.TypeFacts.{valued-fits}
use Rattle.test_plain.proofs.OrderFacts.{key_of, keys_there}

-- ---- rows and columns

-- two rows in one fit the fields of both
fits-append : (fs gs : List Field) (a b : List AnyValue) → RowFits fs a → RowFits gs b → RowFits (fs ++ gs) (a ++ b)
fits-append [] gs [] b h k = k
fits-append [] gs (v ∷ vs) b h k = absurd h
fits-append (f ∷ fs) gs [] b h k = absurd h
fits-append (f ∷ fs) gs (v ∷ vs) b h k = (h.0, fits-append fs gs vs b h.1 k)

-- the value at a place of a row that fits
fits-at : (fs : List Field) (row : List AnyValue) (i : ℕ) (d : Field) → i < length fs → RowFits fs row → fits (value_at row i) (get_or fs i d).dtype ≡ true
fits-at [] row i d lt h = absurd (omega arith)
fits-at (f ∷ fs) [] i d lt h = absurd h
fits-at (f ∷ fs) (v ∷ vs) zero d lt h = h.0
fits-at (f ∷ fs) (v ∷ vs) (suc i) d lt h = fits-at fs vs i d (omega arith) h.1

-- the values at a place of rows that fit
pub column-fits : (fs : List Field) (i : ℕ) (f : Field) (rows : List (Vec AnyValue Global)) → i < length fs → f ≡ get_or fs i f → RowsFit fs (map (λ row. row.items) rows)
    → all_fit f.dtype (map (λ row. value_at row.items i) rows) ≡ true
column-fits fs i f [] lt e h = refl
column-fits fs i f (r ∷ rs) lt e h =
    let P : List AnyValue → Type 0 = λ row. RowFits fs row in
    let T : Field → Type 0 = λ g. fits (value_at r.items i) g.dtype ≡ true in
    let others : List (List AnyValue) = map (λ row. row.items) rs in
    let here : fits (value_at r.items i) f.dtype ≡ true = subst T (sym e) (fits-at fs r.items i f lt (All-head P r.items others h)) in
    derive.both_true here (column-fits fs i f rs lt e (All-tail P r.items others h))

-- ---- keys

-- the field of a key
abbrev key_field : List Field → Expr → Field
key_field schema e = record { name = name_of e; dtype = known_type e schema }

-- the fields of the keys of a query
abbrev key_fields : QueryTree → List Field
key_fields q = map (key_field q.schema) q.keys

-- the key of a row of a frame
key-fits : (schema : List Field) (frame : FrameData) (n : ℕ) (keys : List Expr) → FitsSchema schema frame → HoldsTypes frame → list_all (is_valued schema) keys ≡ true
    → RowFits (map (key_field schema) keys) (map (λ e. value e frame n) keys)
key-fits schema frame n [] are hold v = tt
key-fits schema frame n (e ∷ es) are hold v =
    let parts = and_parts (is_valued schema e) (list_all (is_valued schema) es) v in
    (valued-fits schema e frame n are hold parts.0, key-fits schema frame n es are hold parts.1)

-- the key of a row fits the fields of the keys
abbrev KeyFits : QueryTree → Row → Type 0
KeyFits q r = RowFits (key_fields q) r.key

-- so do the keys of the rows of a chunk
chunk_keys-fit : (q : QueryTree) (i : ℕ) (frame : FrameData) (ns : List ℕ) → IsGroupable q → FitsSchema q.schema frame → HoldsTypes frame
    → All (KeyFits q) (map (λ n. row_of q i frame n) ns)
chunk_keys-fit q i frame [] g are hold = All-nil (KeyFits q)
chunk_keys-fit q i frame (n ∷ ns) g are hold =
    All-cons (KeyFits q) (row_of q i frame n) (map (λ m. row_of q i frame m) ns) (key-fits q.schema frame n q.keys are hold g.keys) (chunk_keys-fit q i frame ns g are hold)

-- so do those of the rows of chunks
keys-fit : (q : QueryTree) (i : ℕ) (chunks : List DataChunk) → IsGroupable q → All (λ c. FitsSchema q.schema c.frame) chunks → All (λ c. HoldsTypes c.frame) chunks
    → All (KeyFits q) (rows_from q i chunks)
keys-fit q i [] g are hold = All-nil (KeyFits q)
keys-fit q i (c ∷ cs) g are hold =
    let S : DataChunk → Type 0 = λ x. FitsSchema q.schema x.frame in
    let H : DataChunk → Type 0 = λ x. HoldsTypes x.frame in
    All-append (KeyFits q) (chunk_rows q i c.frame) (rows_from q (i + 1) cs)
    (chunk_keys-fit q i c.frame (range_with_len 0 c.frame.height) g (All-head S c cs are) (All-head H c cs hold))
    (keys-fit q (i + 1) cs g (All-tail S c cs are) (All-tail H c cs hold))

-- ---- aggregates

-- what the aggregates of some entries give fits their fields
aggs-fit : (schema : List Field) (aggs : List AggTree) (j : ℕ) (entries : Entries) → list_all (is_suited schema) aggs ≡ true → EntriesFit j schema aggs entries
    → IsAscending place_cmp (map (λ e. e.0) entries) → length entries < 2 ^ 32
    → RowFits (flat_map (λ a. agg_fields a.name a.kind (input_type schema a.input)) aggs) (aggs_from j schema aggs entries)
aggs-fit schema [] j entries s h up few = tt
aggs-fit schema (a ∷ others) j entries s h up few =
    let parts = and_parts (is_suited schema a) (list_all (is_suited schema) others) s in
    let t = input_type schema a.input in
    let same : length (entries_at j entries) ≡ length entries = length-map entries (λ (e : Place × List AnyValue). (e.0, value_at e.1 j)) in
    fits-append (agg_fields a.name a.kind t) _ _ (aggs_from (j + 1) schema others entries)
    (built-fits a.name a.kind t (entries_at j entries) parts.0 (entries-fit j schema a others entries h) (distinct-at j entries up) (omega (arith, same, few)))
    (aggs-fit schema others (j + 1) entries parts.1 (others-fit j schema a others entries h) up few)

-- ---- the keys of a table

-- values that fit fields are of the fields' types
types-fit : (schema : List Field) (keys : List Expr) (values : List AnyValue) → RowFits (map (key_field schema) keys) values
    → AreOfTypes (map (λ e. known_type e schema) keys) values
types-fit schema [] [] h = tt
types-fit schema [] (v ∷ vs) h = absurd h
types-fit schema (e ∷ es) [] h = absurd h
types-fit schema (e ∷ es) (v ∷ vs) h = (h.0, types-fit schema es vs h.1)

all_mapped : {X Y : Type 0} (P : Y → Type 0) (f : X → Y) (xs : List X) → All P (map f xs) → All (λ x. P (f x)) xs
all_mapped P f [] h = All-nil (λ x. P (f x))
all_mapped P f (x ∷ xs) h = All-cons (λ x. P (f x)) x xs (All-head P (f x) (map f xs) h) (all_mapped P f xs (All-tail P (f x) (map f xs) h))

-- the key of each group of a table is of the types of the keys
pub table-typed : (q : QueryTree) (chunks : List DataChunk) (table : List Group) → IsGroupable q → AreChunksOf q chunks → All (λ c. HoldsTypes c.frame) chunks
    → map group_seen table ≡ with_rows (starts (prototypes q)) [] (rows chunks q) → All (λ g. AreOfTypes (key_types q) g.key.items) table
table-typed q chunks table groupable are hold e =
    let rs : List Row = rows chunks q in
    let P : List AnyValue → Type 0 = λ key. AreOfTypes (key_types q) key in
    let keys : All P (map (λ r. r.key) rs) = All-map P (λ (r : Row). r.key) rs (All-weaker (KeyFits q) (λ r. P r.key) (λ r h. types-fit q.schema q.keys r.key h) rs (keys-fit q 0 chunks groupable are.columns hold)) in
    let there : map key_of table ≡ sorted_keys tuple_cmp (map (λ r. r.key) rs) = keys_there (prototypes q) rs table (sorted_keys tuple_cmp (map (λ r. r.key) rs)) (e ∙ table_is (prototypes q) rs) in
    all_mapped P key_of table (subst (All P) (sym there) (sorted-holds P tuple_cmp (map (λ r. r.key) rs) keys))

-- ---- the answer

-- what holds of each holds of those that a slice keeps
sliced-holds : {X : Type 0} (P : X → Type 0) (slice : Option (ℕ × ℕ)) (xs : List X) → All P xs → All P (sliced slice xs)
sliced-holds P None xs h = h
sliced-holds P (Some s) xs h = All-take P s.1 (drop s.0 xs) (All-drop P s.0 xs h)

-- each row of the answer of chunks fits the answer's fields
pub answer_rows-fit : (q : QueryTree) (chunks : List DataChunk) (partitions : ℕ) → IsGroupable q → AreChunksOf q chunks → All (λ c. HoldsTypes c.frame) chunks
    → RowsFit (output_schema q) (map (answer_row q (rows chunks q)) (sliced q.slice (groups (rows chunks q) q partitions)))
answer_rows-fit q chunks partitions groupable are hold =
    let rs : List Row = rows chunks q in
    let few : length rs < 2 ^ 32 = omega (arith, are.rows, length-rows_from q 0 chunks) in
    let P : List AnyValue → Type 0 = λ key. RowFits (key_fields q) key in
    let Q : List AnyValue → Type 0 = λ row. RowFits (output_schema q) row in
    let keys : All P (map (λ r. r.key) rs) = All-map P (λ (r : Row). r.key) rs (keys-fit q 0 chunks groupable are.columns hold) in
    let sorted : All P (groups rs q partitions) = sorted-holds P _ (map (λ r. r.key) rs) keys in
    let row-fits : (key : List AnyValue) → P key → Q (answer_row q rs key) = λ key h.
    fits-append (key_fields q) _ key (aggs_from 0 q.schema q.aggs (rows_at rs key)) h
    (aggs-fit q.schema q.aggs 0 (rows_at rs key) groupable.aggs (key-entries-fit q chunks key groupable are hold) (key-places-ascend q chunks key) (rows_at-few rs key few)) in
    let ks : List (List AnyValue) = sliced q.slice (groups rs q partitions) in
    All-map Q (answer_row q rs) ks (All-weaker P (λ key. Q (answer_row q rs key)) row-fits ks (sliced-holds P q.slice (groups rs q partitions) sorted))
