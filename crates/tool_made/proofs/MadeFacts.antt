-- Where the chunks of generated rows lie among the rows, and their columns one row longer.
use Rattle.std.specs.Prelude.{IfOk, Ok, Result, get_or, slice_index_or, ◌≡◌, ◌+◌, ◌*◌, ◌/◌, ◌%◌, ◌<◌, ◌≤◌, ◌^◌, ◌++◌, ℕ, List, [], ◌∷◌, map, min, pos, true, refl, length}
use Rattle.std.specs.List.{list_all, range_with_len}
use Rattle.std.proofs.Common.{◌∙◌, ap, arith, rules, subst, sym}
use Rattle.std.proofs.Math.Nat.{le-mul_of_pos_right, mul-le-mul_right}
use Rattle.std.proofs.lemmas.Grind.{div_ceil_times}
use Rattle.std.proofs.lemmas.List.{ext_get_or, get_or-map, length-map}
use Rattle.std.proofs.lemmas.List.FromFn.{get_or-map-range_with_len, length-map-range_with_len, map-range_with_len_more}
use Rattle.pipe_columns.specs.declared.any_value.AnyValue.{AnyValue}
use Rattle.pipe_columns.specs.declared.any_value.AnyValue.TheVariants as av
use Rattle.std.proofs.lemmas.Bool.{and_from}
use Rattle.std.proofs.lemmas.List.Folds.{list_all-append}
use Rattle.pipe_columns.specs.AnyValue.{fits}
use Rattle.pipe_columns.specs.declared.data_type.DataType.TheVariants as dt
use Rattle.pipe_columns.specs.Frame.{AllFit}
use Rattle.pipe_columns.specs.declared.data_chunk.DataChunk.{DataChunk}
use Rattle.tool_made.specs.Made.{chunk_count, made_chunk, made_from, made_key, made_value}
use Rattle.tool_made.specs.declared.made.Made.{Made}

-- a chunk that is there begins before the rows end, and its position is below their number
pub begins_inside : (m : Made) (i : ℕ) → 0 < m.chunk → i < chunk_count m → (i * m.chunk < m.rows) × (i ≤ i * m.chunk)
begins_inside m i some there =
    let next : (i + 1) * m.chunk ≤ chunk_count m * m.chunk = mul-le-mul_right m.chunk (omega (arith, there)) in
    let ends : chunk_count m * m.chunk < m.rows + m.chunk = (div_ceil_times m.rows m.chunk some).1 in
    (omega (arith, next, ends), le-mul_of_pos_right i some)

-- the keys of one row more
pub keys_more : (seed a n : ℕ) → map (λ i. av.Int (pos (made_key seed i))) (range_with_len a (n + 1)) ≡ map (λ i. av.Int (pos (made_key seed i))) (range_with_len a n) ++ av.Int (pos (made_key seed (a + n))) ∷ []
keys_more seed a n = map-range_with_len_more (λ (i : ℕ). av.Int (pos (made_key seed i))) a n (a + n) refl

-- the values of one row more
pub values_more : (a n : ℕ) → map (λ i. av.Int (pos (made_value i))) (range_with_len a (n + 1)) ≡ map (λ i. av.Int (pos (made_value i))) (range_with_len a n) ++ av.Int (pos (made_value (a + n))) ∷ []
values_more a n = map-range_with_len_more (λ (i : ℕ). av.Int (pos (made_value i))) a n (a + n) refl

-- numbers that fit, and one more that does
pub one_fits_more : (xs : List AnyValue) (v : AnyValue) → AllFit dt.Int64 xs → fits v dt.Int64 ≡ true → AllFit dt.Int64 (xs ++ v ∷ [])
one_fits_more xs v all one = list_all-append (λ (x : AnyValue). fits x dt.Int64) xs (v ∷ []) ∙ and_from _ _ all (and_from _ _ one refl)

-- chunks that were had of tries are those that were tried
pub chunks_had : {E : Type 0} (m : Made) (first count : ℕ) (tries : List (Result DataChunk E)) (chunks : List DataChunk) → length tries ≡ count
    → ((i : ℕ) (d : Result DataChunk E) → i < count → IfOk (slice_index_or tries i d) (λ c. c ≡ made_chunk m (first + i)))
    → map Ok chunks ≡ tries → chunks ≡ made_from m first count
chunks_had {E} m first count tries chunks len each had =
    let many : length chunks ≡ count = sym (length-map chunks Ok) ∙ ap length had ∙ len in
    let as_many : length (made_from m first count) ≡ count = length-map-range_with_len (made_chunk m) first count in
    ext_get_or (made_chunk m 0) chunks (made_from m first count) (many ∙ sym as_many)
    (λ k lt.
    let d : DataChunk = made_chunk m 0 in
    let below : k < count = omega (arith, lt, many) in
    let there : slice_index_or tries k (Ok d) ≡ Ok (get_or chunks k d) = search (rules, get_or-map, sym had) in
    subst (λ (t : Result DataChunk E). IfOk t (λ c. c ≡ made_chunk m (first + k))) there (each k (Ok d) below)
    ∙ sym (get_or-map-range_with_len (made_chunk m) first count k (first + k) d below refl))
