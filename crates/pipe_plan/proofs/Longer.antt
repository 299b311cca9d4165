-- A run over more chunks keeps what the shorter one had: its workers' rows, and what overflows of them.
use Rattle.std.proofs.Common.{◌≡◌, ℕ, ◌+◌, Bool, true, false, not, ◌&&◌, ◌||◌, List, ◌∷◌, ◌++◌, length, refl, ap, sym, ◌∙◌}
use Rattle.std.specs.Prelude.{if◌then◌else◌, ◌==◌}
use Rattle.std.specs.Cmp.{Equal-is, tied_itself}
use Rattle.std.specs.List.{filter}
use Rattle.std.specs.Ordering.{is_eq}
use Rattle.std.specs.Set.{is_member}
use Rattle.std.proofs.lemmas.List.{map-append}
use Rattle.std.proofs.lemmas.List.Elements.{filter-append}
use Rattle.pipe_columns.proofs.ValueOrder.{tuples_tie, tuples_total}
use Rattle.pipe_columns.specs.declared.any_value.AnyValue.{AnyValue}
use Rattle.pipe_columns.specs.declared.data_chunk.DataChunk.{DataChunk}
use Rattle.pipe_columns.specs.Row.{Row}
use Rattle.pipe_model.specs.Answer.{tuple_cmp}
use Rattle.pipe_model.specs.Rows.{rows_from, keys_of}
use Rattle.pipe_plan.specs.declared.limits.Limits.{Limits}
use Rattle.pipe_plan.specs.Kept.{distinct, first_distinct, is_kept, kept_keys, same_key}
use Rattle.pipe_plan.specs.Rounds.{GoesOn}
use Rattle.pipe_plan.specs.Overflow.{overflow, overflows, partition_of}
use Rattle.pipe_plan.specs.Run.{is_generic, is_turn_of, of_worker, Run, StoreSeen}
use Rattle.pipe_plan.proofs.ChunkRows.{rows-append}
use Rattle.pipe_plan.proofs.Filtering.{filter-within}
use Rattle.pipe_plan.proofs.Keeping.{held-decided, IsExact, is_member-append, is_member-distinct}

-- a run over more chunks, open or closed, with other stores
abbrev pub longer_run : Run → Bool → List DataChunk → List StoreSeen → Run
longer_run r is_open chunks stores = record r {
  chunks = r.chunks ++ chunks;
  is_open = is_open;
  stores = stores;
}

-- a run that goes on is a longer one
pub goes-on : (r s : Run) (on : GoesOn r s) → longer_run r s.is_open on.more s.stores ≡ s
goes-on r s on = λ i. record {
  chunks = sym on.chunks i;
  query = sym on.query i;
  limits = sym on.limits i;
  actions = sym on.actions i;
  rules = sym on.rules i;
  is_open = s.is_open;
  stores = s.stores;
}

-- keys are one exactly where they are equal
pub keys_exact : IsExact same_key
keys_exact = record {
  apart = λ a b is. tuples_tie a b ((Equal-is (tuple_cmp a b)).0 is);
  itself = λ a. ap is_eq (tied_itself tuples_total a);
}

-- the key of a row is among the keys of its rows
pub keys-has : (front back : List Row) (x : Row) → is_member same_key (keys_of (front ++ x ∷ back)) x.key ≡ true
keys-has front back x =
    ap (λ (l : List (List AnyValue)). is_member same_key l x.key) (map-append (λ (x : Row). x.key) front (x ∷ back))
    ∙ is_member-append same_key (keys_of front) (x.key ∷ keys_of back) x.key
    ∙ ap (λ b. is_member same_key (keys_of front) x.key || (b || is_member same_key (keys_of back) x.key)) (keys_exact.itself x.key)
    ∙ or-true (is_member same_key (keys_of front) x.key)
  where
    or-true : (b : Bool) → (b || true) ≡ true
    or-true true = refl
    or-true false = refl

-- whether a key is kept of rows shows as soon as it came
pub kept-decided : (l : Limits) (xs more : List Row) (key : List AnyValue) → is_member same_key (keys_of xs) key ≡ true
    → is_member same_key (kept_keys l (xs ++ more)) key ≡ is_member same_key (kept_keys l xs) key
kept-decided l xs more key came =
    let n = l.spill_size + 1 in
    let both : keys_of (xs ++ more) ≡ keys_of xs ++ keys_of more = map-append (λ (x : Row). x.key) xs more in
    elim (is_generic l.sink) as (λ b. is_member same_key (if b then first_distinct same_key n (keys_of (xs ++ more)) else distinct same_key (keys_of (xs ++ more))) key ≡ is_member same_key (if b then first_distinct same_key n (keys_of xs) else distinct same_key (keys_of xs)) key) [
      | true ↦ ap (λ (ks : List (List AnyValue)). is_member same_key (first_distinct same_key n ks) key) both ∙ held-decided same_key keys_exact n (keys_of xs) (keys_of more) key came
      | false ↦
          ap (λ (ks : List (List AnyValue)). is_member same_key (distinct same_key ks) key) both
          ∙ is_member-distinct same_key keys_exact (keys_of xs ++ keys_of more) key
          ∙ is_member-append same_key (keys_of xs) (keys_of more) key
          ∙ ap (λ b. b || is_member same_key (keys_of more) key) came
          ∙ sym (is_member-distinct same_key keys_exact (keys_of xs) key ∙ came)
    ]

-- a worker's rows in the chunks that come behind a run's
abbrev pub more_rows : Run → ℕ → List DataChunk → List Row
more_rows r w chunks = filter (λ x. is_turn_of r w x.place.chunk) (rows_from r.query (0 + length r.chunks) chunks)

-- its rows in all chunks are those before and these
pub worker-later : (r : Run) (o : Bool) (chunks : List DataChunk) (stores : List StoreSeen) (w : ℕ) → of_worker (longer_run r o chunks stores) w ≡ of_worker r w ++ more_rows r w chunks
worker-later r o chunks stores w =
    ap (λ (l : List Row). filter (λ x. is_turn_of r w x.place.chunk) l) (rows-append r.query 0 r.chunks chunks)
    ∙ filter-append (λ (x : Row). is_turn_of r w x.place.chunk) (rows_from r.query 0 r.chunks) (rows_from r.query (0 + length r.chunks) chunks)

-- a row that came is kept later exactly where it was
pub is_kept-later : (r : Run) (o : Bool) (chunks : List DataChunk) (stores : List StoreSeen) (w : ℕ) (front back : List Row) (x : Row) → of_worker r w ≡ front ++ x ∷ back
    → is_kept (longer_run r o chunks stores) w x ≡ is_kept r w x
is_kept-later r o chunks stores w front back x is =
    ap (λ (l : List Row). is_member same_key (kept_keys r.limits l) x.key) (worker-later r o chunks stores w)
    ∙ kept-decided r.limits (of_worker r w) (more_rows r w chunks) x.key (ap (λ (l : List Row). is_member same_key (keys_of l) x.key) is ∙ keys-has front back x)

-- the rows that came overflow later exactly where they did
pub overflow-same : (r : Run) (o : Bool) (chunks : List DataChunk) (stores : List StoreSeen) (w p : ℕ) → filter (overflows (longer_run r o chunks stores) w p) (of_worker r w) ≡ overflow r w p
overflow-same r o chunks stores w p =
    filter-within (overflows (longer_run r o chunks stores) w p) (overflows r w p) (of_worker r w)
    (λ front back x is. ap (λ b. (partition_of r x == p) && not b) (is_kept-later r o chunks stores w front back x is))

-- and so do those that are kept
pub kept-same : (r : Run) (o : Bool) (chunks : List DataChunk) (stores : List StoreSeen) (w : ℕ) → filter (is_kept (longer_run r o chunks stores) w) (of_worker r w) ≡ filter (is_kept r w) (of_worker r w)
kept-same r o chunks stores w = filter-within (is_kept (longer_run r o chunks stores) w) (is_kept r w) (of_worker r w) (is_kept-later r o chunks stores w)

-- what overflows of the chunks that come behind
abbrev pub more_overflow : Run → Bool → List DataChunk → List StoreSeen → ℕ → ℕ → List Row
more_overflow r o chunks stores w p = filter (overflows (longer_run r o chunks stores) w p) (more_rows r w chunks)

-- what overflows in all chunks is what did before and this
pub overflow-later : (r : Run) (o : Bool) (chunks : List DataChunk) (stores : List StoreSeen) (w p : ℕ)
    → overflow (longer_run r o chunks stores) w p ≡ overflow r w p ++ more_overflow r o chunks stores w p
overflow-later r o chunks stores w p =
    ap (λ (l : List Row). filter (overflows (longer_run r o chunks stores) w p) l) (worker-later r o chunks stores w)
    ∙ filter-append (overflows (longer_run r o chunks stores) w p) (of_worker r w) (more_rows r w chunks)
    ∙ ap (λ l. l ++ more_overflow r o chunks stores w p) (overflow-same r o chunks stores w p)
