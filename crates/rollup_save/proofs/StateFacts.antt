-- The state of chunks over the columns that their query names alone, and its text.
use Rattle.std.proofs.Common.{◌≡◌, ◌∙◌, ◌+◌, ◌++◌, ℕ, Bool, true, List, [], ◌∷◌, length, map, refl, sym, ap, arith}
use Rattle.std.specs.Int.{bytes_high_first}
use Rattle.std.specs.List.{flat_map, list_all, range_with_len}
use Rattle.std.proofs.lemmas.Bool.{and_parts}
use Rattle.std.proofs.lemmas.List.{length-map, map-append}
use Rattle.std.proofs.lemmas.Simd.{map-map}
use Rattle.narrow_columns.specs.Wanted.{chosen, narrowed_chunk, narrowed_chunks}
use Rattle.narrow_query.specs.Names.{covers, has_fed, has_named}
use Rattle.narrow_query.specs.Narrowed.{narrowed_tree}
use Rattle.narrow_query.proofs.AnswerFacts.{fed-type, keys-same, rows-same}
use Rattle.pipe_columns.specs.declared.any_value.AnyValue.{AnyValue}
use Rattle.pipe_columns.specs.declared.data_chunk.DataChunk.{DataChunk}
use Rattle.pipe_columns.specs.declared.data_type.DataType.TheVariants as dt
use Rattle.pipe_columns.specs.declared.place.Place.{Place}
use Rattle.pipe_columns.specs.declared.schema.Field.{Field}
use Rattle.pipe_columns.specs.Key.{code}
use Rattle.pipe_columns.specs.Place.{first_entry, last_entry}
use Rattle.pipe_columns.specs.Row.{Row}
use Rattle.pipe_model.specs.Aggregate.{agg, counted}
use Rattle.pipe_model.specs.Answer.{aggs_from, inputs_at, rows_at}
use Rattle.pipe_model.specs.Output.{input_type}
use Rattle.pipe_model.specs.Query.{AggTree, QueryTree}
use Rattle.pipe_model.specs.Rows.{chunk_rows, row_of, rows_from}
use Rattle.pipe_saving.specs.Refusals.{AllFit}
use Rattle.pipe_spill.specs.FrameBytes.{frame_bytes}
use Rattle.pipe_states.specs.Parts.{part_of, saved}
use Rattle.pipe_states.specs.Regrouped.{column_count}
use Rattle.pipe_states.specs.States.{place_of, StateSeen, tuples_of}
use Rattle.pipe_states.specs.StateText.{saved_agg, saved_aggs, saved_types, state_text}
use Rattle.pipe_states.specs.declared.state_row.StateRow.{StateRow}

-- ---- rows

-- a row so many positions later
abbrev shifted : ℕ → Row → Row
shifted k r = record r { place = record { chunk = r.place.chunk + k; row = r.place.row } }

-- the rows of chunks from a later position on are those rows so much later
rows-shift : (q : QueryTree) (i k : ℕ) (chunks : List DataChunk) → rows_from q (i + k) chunks ≡ map (shifted k) (rows_from q i chunks)
rows-shift q i k [] = refl
rows-shift q i k (c ∷ cs) =
    let one : chunk_rows q (i + k) c.frame ≡ map (shifted k) (chunk_rows q i c.frame) = sym (map-map (shifted k) (λ n. row_of q i c.frame n) (range_with_len 0 c.frame.height)) in
    let at : (i + k) + 1 ≡ (i + 1) + k = omega arith in
    let rest : rows_from q ((i + k) + 1) cs ≡ map (shifted k) (rows_from q (i + 1) cs) = ap (λ n. rows_from q n cs) at ∙ rows-shift q (i + 1) k cs in
    (λ j. one j ++ rest j) ∙ sym (map-append (shifted k) (chunk_rows q i c.frame) (rows_from q (i + 1) cs))

-- the rows of chunks are the same over fewer columns, wherever the first stands
rows-at : (ws : List Bool) (q : QueryTree) (first : ℕ) (chunks : List DataChunk) → AllFit q.schema chunks → covers ws q ≡ true → rows_from (narrowed_tree ws q) first (narrowed_chunks ws chunks) ≡ rows_from q first chunks
rows-at ws q first chunks fit h =
    let at : first ≡ 0 + first = omega arith in
    ap (λ n. rows_from (narrowed_tree ws q) n (narrowed_chunks ws chunks)) at ∙ rows-shift (narrowed_tree ws q) 0 first (narrowed_chunks ws chunks)
    ∙ ap (λ (rs : List Row). map (shifted first) rs) (rows-same ws q chunks fit h) ∙ sym (rows-shift q 0 first chunks) ∙ ap (λ n. rows_from q n chunks) (sym at)

-- ---- aggregates

-- each aggregate of a query is fed by wanted columns
fed : (ws : List Bool) (q : QueryTree) → covers ws q ≡ true → list_all (λ a. has_fed ws q.schema a.input) q.aggs ≡ true
fed ws q h = (and_parts (list_all (has_named ws q.schema) q.keys) (list_all (λ a. has_fed ws q.schema a.input) q.aggs) h).1

-- the first of some is, and so are the others
fed-both : (ws : List Bool) (schema : List Field) (a : AggTree) (others : List AggTree) → list_all (λ (a : AggTree). has_fed ws schema a.input) (a ∷ others) ≡ true
    → (has_fed ws schema a.input ≡ true) × (list_all (λ (a : AggTree). has_fed ws schema a.input) others ≡ true)
fed-both ws schema a others h = and_parts (has_fed ws schema a.input) (list_all (λ a. has_fed ws schema a.input) others) h

-- what they come to
aggs-same : (ws : List Bool) (n : ℕ) (schema : List Field) (aggs : List AggTree) (entries : List (Place × List AnyValue)) → list_all (λ (a : AggTree). has_fed ws schema a.input) aggs ≡ true
    → aggs_from n (chosen ws schema) aggs entries ≡ aggs_from n schema aggs entries
aggs-same ws n schema [] entries h = refl
aggs-same ws n schema (a ∷ others) entries h =
    let both = fed-both ws schema a others h in
    let one = fed-type ws schema a.input both.0 in
    let rest = aggs-same ws (n + 1) schema others entries both.1 in
    λ j. agg a.kind (one j) (inputs_at n entries) ++ rest j

-- the types in which they are saved
types-same : (ws : List Bool) (schema : List Field) (aggs : List AggTree) → list_all (λ (a : AggTree). has_fed ws schema a.input) aggs ≡ true
    → flat_map (λ (a : AggTree). saved_types a.kind (input_type (chosen ws schema) a.input)) aggs ≡ flat_map (λ (a : AggTree). saved_types a.kind (input_type schema a.input)) aggs
types-same ws schema [] h = refl
types-same ws schema (a ∷ others) h =
    let both = fed-both ws schema a others h in
    let one = fed-type ws schema a.input both.0 in
    let rest = types-same ws schema others both.1 in
    λ j. saved_types a.kind (one j) ++ rest j

-- and as what
saved-same : (ws : List Bool) (n : ℕ) (schema : List Field) (aggs : List AggTree) (results : List AnyValue) → list_all (λ (a : AggTree). has_fed ws schema a.input) aggs ≡ true
    → saved_aggs n (chosen ws schema) aggs results ≡ saved_aggs n schema aggs results
saved-same ws n schema [] results h = refl
saved-same ws n schema (a ∷ others) results h =
    let both = fed-both ws schema a others h in
    let one = fed-type ws schema a.input both.0 in
    let rest = saved-same ws (n + column_count a.kind (input_type schema a.input)) schema others results both.1 in
    (λ j. saved_agg a.kind (one j) n results ++ saved_aggs (n + column_count a.kind (one j)) (chosen ws schema) others results)
    ∙ ap (λ (vs : List AnyValue). saved_agg a.kind (input_type schema a.input) n results ++ vs) rest

-- ---- states

-- the state of chunks over fewer columns
pub state-same : (ws : List Bool) (q : QueryTree) (first : ℕ) (chunks : List DataChunk) → AllFit q.schema chunks → covers ws q ≡ true
    → saved (narrowed_tree ws q) (part_of (narrowed_tree ws q) first (narrowed_chunks ws chunks)) ≡ saved q (part_of q first chunks)
state-same ws q first chunks fit h =
    let rs = rows-at ws q first chunks fit h in
    let count : length (narrowed_chunks ws chunks) ≡ length chunks = length-map chunks (narrowed_chunk ws) in
    λ j. record {
      first = first;
      end = first + count j;
      rows = map (λ (key : List AnyValue). record {
        key = key;
        first = place_of (first_entry (rows_at (rs j) key));
        last = place_of (last_entry (rows_at (rs j) key));
        rows = length (rows_at (rs j) key);
        results = aggs-same ws 0 q.schema q.aggs (rows_at (rs j) key) (fed ws q h) j;
      }) (tuples_of (rs j));
    }

-- the text of a state by the query over fewer columns
pub text-same : (ws : List Bool) (q : QueryTree) (s : StateSeen) → covers ws q ≡ true → state_text (narrowed_tree ws q) s ≡ state_text q s
text-same ws q s h =
    let keys = keys-same ws q h in
    let types = types-same ws q.schema q.aggs (fed ws q h) in
    λ j. bytes_high_first 4 s.first ++ bytes_high_first 4 s.end
    ++ frame_bytes (dt.UInt32 ∷ dt.UInt32 ∷ dt.UInt32 ∷ types j) (map (λ (r : StateRow). record {
      place = r.first;
      key = code (keys j) r.key;
      values = counted r.last.chunk ∷ counted r.last.row ∷ counted r.rows ∷ saved-same ws 0 q.schema q.aggs r.results (fed ws q h) j;
    }) s.rows)
