-- What the groups of a table give is the answer.
use Rattle.std.proofs.Common.{◌≡◌, ◌∙◌, ℕ, ◌+◌, ◌%◌, Bool, true, false, List, [], ◌∷◌, ◌++◌, map, Option, Some, None, unwrap_or, refl, sym, ap}
use Rattle.std.proofs.lemmas.Simd.{map-map}
use Rattle.std.specs.Cmp.Derive as derive
use Rattle.std.specs.List.{All, fold, list_all}
use Rattle.std.specs.Ordering.{is_eq, nat_cmp, ordering_then}
use Rattle.std.specs.declared.cmp.Ordering.{Ordering}
use Rattle.std.specs.Cmp.{nat_cmp_total}
use Rattle.std.proofs.Math.Nat.{mod-one}
use Rattle.std.proofs.lemmas.List.{drop-map, take-map}
use Rattle.std.proofs.lemmas.List.Elements.{All-head, All-tail, All-weaker}
use Rattle.std.proofs.lemmas.List.Sums.{fold-append}
use Rattle.std.proofs.lemmas.Bool.{and_parts}
use Rattle.pipe_columns.specs.declared.any_value.AnyValue.{AnyValue}
use Rattle.pipe_columns.specs.declared.data_chunk.DataChunk.{DataChunk}
use Rattle.pipe_columns.specs.declared.data_type.DataType.{DataType}
use Rattle.pipe_columns.specs.declared.place.Place.{Place}
use Rattle.pipe_columns.specs.declared.schema.Field.{Field}
use Rattle.pipe_columns.specs.Groups.{IsAscending, sorted_keys}
use Rattle.pipe_columns.specs.Key.{code, fold_bytes, partition}
use Rattle.pipe_columns.specs.Place.{first_entry, place_cmp}
use Rattle.pipe_columns.specs.Row.{Row}
use Rattle.pipe_columns.specs.Slice.{sliced}
use Rattle.pipe_columns.proofs.ValueOrder.{tuples_tie, tuples_total}
use Rattle.pipe_running.specs.declared.function.AggregateFunction.{AggregateFunction}
use Rattle.pipe_model.specs.Aggregate.{agg}
use Rattle.pipe_running.specs.States.{after_entries, fresh, given, output_values}
use Rattle.pipe_model.specs.Groupable.{IsGroupable, is_suited}
use Rattle.pipe_aggs.specs.HashAggs.{function_for, prototypes}
use Rattle.pipe_model.specs.Output.{input_type, key_types}
use Rattle.pipe_model.specs.Query.{AggTree, QueryTree}
use Rattle.pipe_model.specs.Answer.{aggs_from, answer_row, entry_of, first_place_cmp, groups, partition_cmp, rows_at, tuple_cmp}
use Rattle.pipe_model.specs.Rows.{AreChunksOf, rows}
use Rattle.test_plain.specs.declared.groups.Group.{Group}
use Rattle.pipe_columns.specs.Frame.{HoldsTypes}
use Rattle.pipe_columns.specs.StableSort.{IsSortedStably}
use Rattle.test_plain.specs.Running.{fed, group_seen, keyed_line, Line, line_of, output_row, starts, with_rows}
use Rattle.pipe_running.specs.GroupStates.{fed_from}
use Rattle.pipe_columns.proofs.AscendingFacts.{sorted-same}
use Rattle.pipe_columns.proofs.ElementFacts.{all_has, Has}
use Rattle.test_plain.proofs.BuiltFacts.{all_of_type, built-gives}
use Rattle.test_plain.proofs.EntryFacts.{at-ascend, at-holds, distinct-at, Entries, entries_at}
use Rattle.test_plain.proofs.FrameFacts.{outputs_of}
use Rattle.test_plain.proofs.GroupFacts.{groups_all, keyed_none}
use Rattle.test_plain.proofs.InputFacts.{FitsFrom, rows-fit}
use Rattle.test_plain.proofs.OrderFacts.{sorted_lines}
use Rattle.pipe_model.proofs.PlaceFacts.{place_total}
use Rattle.pipe_model.proofs.RowPlaces.{rows-ascend}
use Rattle.test_plain.proofs.PlaceFacts.{by_first_place, first_at, first_of}

-- ---- the table

one_row : (start : Line) (v : Place × List AnyValue) → fed v start ≡ line_of start (v ∷ [])
one_row start v = refl

more_rows : (start : Line) (v : Place × List AnyValue) (vs : List (Place × List AnyValue)) → fed v (line_of start vs) ≡ line_of start (vs ++ (v ∷ []))
more_rows start v vs = sym (fold-append (λ (line : Line) (w : Place × List AnyValue). fed w line) start vs (v ∷ []))

-- a table to which rows are added one by one has each key with the line of its rows
pub table_is : (prototypes : List AggregateFunction) (rs : List Row) → with_rows (starts prototypes) [] rs ≡ map (keyed_line prototypes rs) (sorted_keys tuple_cmp (map (λ r. r.key) rs))
table_is prototypes rs =
    let start : Line = starts prototypes in
    let keys : map (λ e. e.0) (map entry_of rs) ≡ map (λ r. r.key) rs = map-map (λ e. e.0) entry_of rs in
    groups_all tuple_cmp tuples_total tuples_tie (λ v. fed v start) fed (line_of start) (one_row start) (more_rows start) entry_of [] rs (keyed_none tuple_cmp tuples_total tuples_tie)
    ∙ ap (λ (ks : List (List AnyValue)). map (keyed_line prototypes rs) (sorted_keys tuple_cmp ks)) keys

-- ---- the aggregates

abbrev states_from : ℕ → List AggregateFunction → List (Place × List AnyValue) → List AggregateFunction
states_from j start entries = fold (λ states v. fed_from v.0 j v.1 states) start entries

states_from-nil : (j : ℕ) (entries : List (Place × List AnyValue)) → states_from j [] entries ≡ []
states_from-nil j [] = refl
states_from-nil j (e ∷ es) = states_from-nil j es

-- each aggregate runs by itself
states_from-cons : (j : ℕ) (s : AggregateFunction) (ss : List AggregateFunction) (entries : List (Place × List AnyValue))
    → states_from j (s ∷ ss) entries ≡ after_entries (entries_at j entries) s ∷ states_from (j + 1) ss entries
states_from-cons j s ss [] = refl
states_from-cons j s ss (e ∷ es) = states_from-cons j (after_entries (entries_at j (e ∷ [])) s) (fed_from e.0 (j + 1) e.1 ss) es

states_of-line : (line : Line) (entries : List (Place × List AnyValue)) → (line_of line entries).states ≡ states_from 0 line.states entries
states_of-line line [] = refl
states_of-line line (e ∷ es) = states_of-line (fed e line) es

-- each entry has inputs that fit
abbrev pub EntriesFit : ℕ → List Field → List AggTree → Entries → Type 0
EntriesFit j schema aggs entries = All (λ e. FitsFrom j schema aggs e.1) entries

pub entries-fit : (j : ℕ) (schema : List Field) (a : AggTree) (others : List AggTree) (entries : Entries) → EntriesFit j schema (a ∷ others) entries
    → all_of_type (input_type schema a.input) (entries_at j entries) ≡ true
entries-fit j schema a others [] h = refl
entries-fit j schema a others (e ∷ es) h =
    let P : Place × List AnyValue → Type 0 = λ x. FitsFrom j schema (a ∷ others) x.1 in
    derive.both_true (All-head P e es h).0 (entries-fit j schema a others es (All-tail P e es h))

pub others-fit : (j : ℕ) (schema : List Field) (a : AggTree) (others : List AggTree) (entries : Entries) → EntriesFit j schema (a ∷ others) entries
    → EntriesFit (j + 1) schema others entries
others-fit j schema a others entries h = All-weaker (λ (e : Place × List AnyValue). FitsFrom j schema (a ∷ others) e.1) (λ (e : Place × List AnyValue). FitsFrom (j + 1) schema others e.1) (λ e f. f.1) entries h

-- what one aggregate gives of entries at ascending places
pub one-gives : (j : ℕ) (schema : List Field) (a : AggTree) (others : List AggTree) (entries : Entries) → is_suited schema a ≡ true → EntriesFit j schema (a ∷ others) entries
    → IsAscending place_cmp (map (λ e. e.0) entries)
    → output_values (given (after_entries (entries_at j entries) (fresh (function_for a.kind (input_type schema a.input))))) ≡ agg a.kind (input_type schema a.input) (entries_at j entries)
one-gives j schema a others entries s h up =
    built-gives a.kind (input_type schema a.input) (entries_at j entries) s (entries-fit j schema a others entries h) (distinct-at j entries up)

outputs_from : (schema : List Field) (aggs : List AggTree) (j : ℕ) (entries : Entries) → list_all (is_suited schema) aggs ≡ true → EntriesFit j schema aggs entries
    → IsAscending place_cmp (map (λ e. e.0) entries)
    → outputs_of (states_from j (starts (map (λ a. function_for a.kind (input_type schema a.input)) aggs)).states entries) ≡ aggs_from j schema aggs entries
outputs_from schema [] j entries s h up = ap outputs_of (states_from-nil j entries)
outputs_from schema (a ∷ others) j entries s h up =
    let parts = and_parts (is_suited schema a) (list_all (is_suited schema) others) s in
    let f : AggregateFunction = function_for a.kind (input_type schema a.input) in
    let rest : List AggregateFunction = (starts (map (λ b. function_for b.kind (input_type schema b.input)) others)).states in
    let own = one-gives j schema a others entries parts.0 h up in
    let more : outputs_of (states_from (j + 1) rest entries) ≡ aggs_from (j + 1) schema others entries =
    outputs_from schema others (j + 1) entries parts.1 (others-fit j schema a others entries h) up in
    ap outputs_of (states_from-cons j (fresh f) rest entries)
    ∙ ap (λ (t : List AnyValue). t ++ outputs_of (states_from (j + 1) rest entries)) own
    ∙ ap (λ (t : List AnyValue). agg a.kind (input_type schema a.input) (entries_at j entries) ++ t) more

-- ---- first places

first_stays : (line : Line) (p : Place) (entries : List (Place × List AnyValue)) → line.first ≡ Some p → (line_of line entries).first ≡ Some p
first_stays line p [] h = h
first_stays line p (e ∷ es) h = first_stays (fed e line) p es (rw h refl)

-- a line has the place where its key first stands
first_kept : (line : Line) (rs : List Row) (k : List AnyValue) → line.first ≡ None → (line_of line (rows_at rs k)).first ≡ first_at rs k
first_kept line [] k h = h
first_kept line (r ∷ rs) k h = by_test (is_eq (tuple_cmp r.key k)) refl (first_kept line rs k h) where
  by_test : (t : Bool) → is_eq (tuple_cmp r.key k) ≡ t → (line_of line (rows_at rs k)).first ≡ first_at rs k → (line_of line (rows_at (r ∷ rs) k)).first ≡ first_at (r ∷ rs) k
  by_test true e rest = rw e (first_stays (fed (r.place, r.inputs) line) r.place (rows_at rs k) (rw h refl))
  by_test false e rest = rw e rest

-- so the group of a key has it
place_kept : (prototypes : List AggregateFunction) (rs : List Row) (g : Group) → group_seen g ≡ keyed_line prototypes rs g.key.items → g.first ≡ first_of rs g.key.items
place_kept prototypes rs g e =
    let seen : Some g.first ≡ first_at rs g.key.items = ap (λ (p : List AnyValue × Line). p.1.first) e ∙ first_kept (starts prototypes) rs g.key.items refl in
    ap (λ (o : Option Place). unwrap_or o (record { chunk = 0; row = 0 })) seen

-- ---- the order of groups

equal_partitions : (m n : ℕ) (o : Ordering) → ordering_then (nat_cmp (m % 1) (n % 1)) o ≡ o
equal_partitions m n o = rw (mod-one m, mod-one n) refl

order_is : (q : QueryTree) (a b : List AnyValue) → partition_cmp 1 (key_types q) a b ≡ tuple_cmp a b
order_is q a b = equal_partitions (fold_bytes (code (key_types q) a)) (fold_bytes (code (key_types q) b)) (tuple_cmp a b)

-- with one partition and no kept order, groups come in the order of their keys
groups_by_key : (q : QueryTree) (rs : List Row) → q.keeps_order ≡ false → groups rs q 1 ≡ sorted_keys tuple_cmp (map (λ r. r.key) rs)
groups_by_key q rs e = rw e (ap (λ (o : List AnyValue → List AnyValue → Ordering). sorted_keys o (map (λ (r : Row). r.key) rs)) (λ i a b. order_is q a b i))

-- a table in the order of keys is then that of the groups
pub table_by_key : (q : QueryTree) (chunks : List DataChunk) (table : List Group) → q.keeps_order ≡ false → map group_seen table ≡ with_rows (starts (prototypes q)) [] (rows chunks q)
    → map group_seen table ≡ map (keyed_line (prototypes q) (rows chunks q)) (groups (rows chunks q) q 1)
table_by_key q chunks table plain e =
    let rs : List Row = rows chunks q in
    e ∙ table_is (prototypes q) rs ∙ ap (map (keyed_line (prototypes q) rs)) (sym (groups_by_key q rs plain))

-- a table that is sorted by partitions is that of the groups where no order is kept
pub table_by_partition : (q : QueryTree) (chunks : List DataChunk) (partitions : ℕ) (before after : List Group) → q.keeps_order ≡ false
    → map group_seen before ≡ with_rows (starts (prototypes q)) [] (rows chunks q) → IsSortedStably (λ g. partition partitions (key_types q) g.key.items) nat_cmp before after
    → map group_seen after ≡ map (keyed_line (prototypes q) (rows chunks q)) (groups (rows chunks q) q partitions)
table_by_partition q chunks partitions before after plain e s =
    let rs : List Row = rows chunks q in
    let types : List DataType = key_types q in
    let keys : List (List AnyValue) = map (λ (r : Row). r.key) rs in
    let due : groups rs q partitions ≡ sorted_keys (partition_cmp partitions types) keys = rw plain refl in
    sorted_lines (prototypes q) rs (λ g. partition partitions types g.key.items) nat_cmp nat_cmp_total (partition partitions types) (λ g f. refl) before after keys (e ∙ table_is (prototypes q) rs) s
    ∙ ap (map (keyed_line (prototypes q) rs)) (sym due)

-- where order is kept, groups come in the order of their first places
groups_by_place : (q : QueryTree) (chunks : List DataChunk) (partitions : ℕ) → q.keeps_order ≡ true
    → groups (rows chunks q) q partitions ≡ sorted_keys (λ a b. ordering_then (place_cmp (first_of (rows chunks q) a) (first_of (rows chunks q) b)) (tuple_cmp a b)) (map (λ r. r.key) (rows chunks q))
groups_by_place q chunks partitions e =
    let rs : List Row = rows chunks q in
    let keys : List (List AnyValue) = map (λ (r : Row). r.key) rs in
    rw e (sorted-same (λ k. Has k keys) (λ a b. first_place_cmp (first_entry (rows_at rs a)) (first_entry (rows_at rs b))) (λ a b. ordering_then (place_cmp (first_of rs a) (first_of rs b)) (tuple_cmp a b))
    (λ a b m n. by_first_place rs a b (rows-ascend chunks q) m n) keys (all_has keys))

-- a table that is sorted by first places has the groups in order
pub table_by_place : (q : QueryTree) (chunks : List DataChunk) (partitions : ℕ) (before after : List Group) → q.keeps_order ≡ true
    → map group_seen before ≡ with_rows (starts (prototypes q)) [] (rows chunks q) → IsSortedStably (λ g. g.first) place_cmp before after
    → map group_seen after ≡ map (keyed_line (prototypes q) (rows chunks q)) (groups (rows chunks q) q partitions)
table_by_place q chunks partitions before after kept e s =
    let rs : List Row = rows chunks q in
    sorted_lines (prototypes q) rs (λ g. g.first) place_cmp place_total (first_of rs) (place_kept (prototypes q) rs) before after (map (λ (r : Row). r.key) rs) (e ∙ table_is (prototypes q) rs) s
    ∙ ap (map (keyed_line (prototypes q) rs)) (sym (groups_by_place q chunks partitions kept))

-- ---- the answer

sliced-map : {X Y : Type 0} (f : X → Y) (slice : Option (ℕ × ℕ)) (xs : List X) → sliced slice (map f xs) ≡ map f (sliced slice xs)
sliced-map f None xs = refl
sliced-map f (Some s) xs = rw (drop-map, take-map) refl

-- the entries of a key of the rows of chunks fit, at ascending places
pub key-entries-fit : (q : QueryTree) (chunks : List DataChunk) (k : List AnyValue) → IsGroupable q → AreChunksOf q chunks → All (λ c. HoldsTypes c.frame) chunks
    → EntriesFit 0 q.schema q.aggs (rows_at (rows chunks q) k)
key-entries-fit q chunks k g are hold = at-holds (λ e. FitsFrom 0 q.schema q.aggs e.1) (rows chunks q) k (rows-fit q 0 chunks g are.columns hold)

pub key-places-ascend : (q : QueryTree) (chunks : List DataChunk) (k : List AnyValue) → IsAscending place_cmp (map (λ e. e.0) (rows_at (rows chunks q) k))
key-places-ascend q chunks k = at-ascend (rows chunks q) k (rows-ascend chunks q)

-- each group that the slice keeps gives a row of the answer
pub rows_given : (q : QueryTree) (chunks : List DataChunk) (partitions : ℕ) (table : List Group) → IsGroupable q → AreChunksOf q chunks → All (λ c. HoldsTypes c.frame) chunks
    → map group_seen table ≡ map (keyed_line (prototypes q) (rows chunks q)) (groups (rows chunks q) q partitions)
    → map output_row (map group_seen (sliced q.slice table)) ≡ map (answer_row q (rows chunks q)) (sliced q.slice (groups (rows chunks q) q partitions))
rows_given q chunks partitions table g are hold e =
    let rs : List Row = rows chunks q in
    let ks : List (List AnyValue) = groups rs q partitions in
    let line : List AnyValue → List AnyValue × Line = keyed_line (prototypes q) rs in
    let kept : map group_seen (sliced q.slice table) ≡ map line (sliced q.slice ks) = sym (sliced-map group_seen q.slice table) ∙ ap (sliced q.slice) e ∙ sliced-map line q.slice ks in
    let rows_are : (k : List AnyValue) → output_row (line k) ≡ answer_row q rs k =
    λ k. ap (λ (ss : List AggregateFunction). k ++ outputs_of ss) (states_of-line (starts (prototypes q)) (rows_at rs k))
    ∙ ap (λ (t : List AnyValue). k ++ t) (outputs_from q.schema q.aggs 0 (rows_at rs k) g.aggs (key-entries-fit q chunks k g are hold) (key-places-ascend q chunks k)) in
    ap (map output_row) kept ∙ map-map output_row line (sliced q.slice ks) ∙ ap (λ (f : List AnyValue → List AnyValue). map f (sliced q.slice ks)) (λ i k. rows_are k i)

-- the rows that the answer is made of
abbrev pub answer_rows : QueryTree → List DataChunk → ℕ → List (List AnyValue)
answer_rows q chunks partitions = map (answer_row q (rows chunks q)) (sliced q.slice (groups (rows chunks q) q partitions))

-- the rows of the groups that are kept are these
pub kept_rows : (q : QueryTree) (chunks : List DataChunk) (partitions : ℕ) (table kept : List Group) (made : List (List AnyValue)) → IsGroupable q → AreChunksOf q chunks → All (λ c. HoldsTypes c.frame) chunks
    → map group_seen table ≡ map (keyed_line (prototypes q) (rows chunks q)) (groups (rows chunks q) q partitions)
    → kept ≡ sliced q.slice table → made ≡ map output_row (map group_seen kept) → made ≡ answer_rows q chunks partitions
kept_rows q chunks partitions table kept made g are hold e k m =
    m ∙ ap (λ (gs : List Group). map output_row (map group_seen gs)) k ∙ rows_given q chunks partitions table g are hold e
