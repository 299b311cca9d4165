-- The groups of chunks with one more.
use Rattle.std.proofs.Common.{◌≡◌, ◌∙◌, ℕ, ◌+◌, ◌-◌, ◌<◌, ◌^◌, List, [], ◌∷◌, ◌++◌, length, ap, subst, arith}
use Rattle.std.proofs.lemmas.List.{length-append}
use Rattle.std.proofs.lemmas.List.Elements.{All-append, All-cons, All-nil}
use Rattle.std.proofs.lemmas.List.Sums.{sum_by_push}
use Rattle.pipe_columns.specs.declared.data_chunk.DataChunk.{DataChunk}
use Rattle.pipe_columns.specs.Frame.{FitsSchema, HoldsTypes}
use Rattle.pipe_running.specs.declared.function.AggregateFunction.{AggregateFunction}
use Rattle.pipe_aggs.specs.HashAggs.{prototypes}
use Rattle.pipe_model.specs.Query.{QueryTree}
use Rattle.pipe_aggs.specs.QueryTrees.{query_tree}
use Rattle.pipe_model.specs.Rows.{AreChunksOf, chunk_rows, rows, total_height}
use Rattle.test_plain.specs.Running.{KeysAscend, Line, starts, Table, TableHolds, with_rows}
use Rattle.test_plain.specs.Taken.{HasTaken, PlainRun}
use Rattle.test_plain.proofs.ChunkFacts.{length-rows_from, with_chunk_more}
use Rattle.test_plain.proofs.HoldFacts.{table-weaker, with_rows-hold}
use Rattle.test_plain.proofs.SpotFacts.{with_rows-ascending}

-- the keys of a table of chunks ascend
pub taken-ascending : (q : QueryTree) (taken : List DataChunk) (table : Table) → HasTaken q taken table → KeysAscend table
taken-ascending q taken table h = rw h.rows (with_rows-ascending (starts (prototypes q)) [] (rows taken q) tt)

-- its running aggregates have room for the rows of one more
pub taken-hold : (q : QueryTree) (taken : List DataChunk) (height : ℕ) (table : Table) → HasTaken q taken table → total_height taken + height < 2 ^ 32
    → TableHolds (2 ^ 32 - 1 - height) (prototypes q) table
taken-hold q taken height table h few =
    let fs : List AggregateFunction = prototypes q in
    let all = length (rows taken q) in
    rw h.rows (table-weaker (0 + all) (2 ^ 32 - 1 - height) fs (with_rows (starts fs) [] (rows taken q)) (omega (arith, few, length-rows_from q 0 taken))
    (with_rows-hold 0 fs [] (rows taken q) tt))

-- chunks that a query may be asked of, with one more
chunks_more : (q : QueryTree) (taken : List DataChunk) (c : DataChunk) → AreChunksOf q taken → FitsSchema q.schema c.frame → HoldsTypes c.frame
    → total_height taken + c.frame.height < 2 ^ 32 → length taken + 1 < 2 ^ 32 → AreChunksOf q (taken ++ (c ∷ []))
chunks_more q taken c are fits typed few number =
    let S : DataChunk → Type 0 = λ x. FitsSchema q.schema x.frame in
    let H : DataChunk → Type 0 = λ x. HoldsTypes x.frame in
    record {
      columns = All-append S taken (c ∷ []) are.columns (All-cons S c [] fits (All-nil S));
      typed = All-append H taken (c ∷ []) are.typed (All-cons H c [] typed (All-nil H));
      rows = omega (arith, few, sum_by_push (λ (x : DataChunk). x.frame.height) taken c);
      number = omega (arith, number, length-append taken (c ∷ []));
    }

-- a table with the rows of one more chunk has taken it
pub taken_more : (q : QueryTree) (taken : List DataChunk) (c : DataChunk) (before after : Table) → HasTaken q taken before → FitsSchema q.schema c.frame → HoldsTypes c.frame
    → total_height taken + c.frame.height < 2 ^ 32 → length taken + 1 < 2 ^ 32
    → after ≡ with_rows (starts (prototypes q)) before (chunk_rows q (length taken) c.frame) → HasTaken q (taken ++ (c ∷ [])) after
taken_more q taken c before after h fits typed few number e =
    let start : Line = starts (prototypes q) in
    record {
      chunks = chunks_more q taken c h.chunks fits typed few number;
      rows = e ∙ ap (λ (t : Table). with_rows start t (chunk_rows q (length taken) c.frame)) h.rows ∙ with_chunk_more q start taken c;
    }

-- a run that is seen by its fields has what they have
pub taken_as : (seen run : PlainRun) (table : Table) → seen ≡ run → HasTaken (query_tree seen.query) seen.taken table → HasTaken (query_tree run.query) run.taken table
taken_as seen run table same h = subst (λ (r : PlainRun). HasTaken (query_tree r.query) r.taken table) same h
