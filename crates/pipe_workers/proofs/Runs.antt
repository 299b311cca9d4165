-- A run over chunks that its query may be asked of.
use Rattle.std.proofs.Common.{◌≡◌, ◌+◌, ◌<◌, ◌^◌, ℕ, true, List, [], ◌∷◌, length, sym, subst, arith, length-append, refl}
use Rattle.std.specs.List.{All}
use Rattle.std.proofs.lemmas.List.Elements.{All-append, All-nil}
use Rattle.std.proofs.lemmas.List.FromFn.{length-map-range_with_len}
use Rattle.std.proofs.lemmas.List.Sums.{sum_by-cons}
use Rattle.pipe_columns.specs.declared.data_chunk.DataChunk.{DataChunk}
use Rattle.pipe_aggs.specs.CheckedQuery.{input_types, IsSound}
use Rattle.pipe_aggs.specs.QueryTrees.{query_tree}
use Rattle.pipe_aggs.specs.declared.query.Query.{Query}
use Rattle.pipe_inputs.specs.RowTypes.{IsRowOf}
use Rattle.pipe_inputs.proofs.TypeFacts.{rows-typed}
use Rattle.pipe_model.specs.Groupable.{IsGroupable}
use Rattle.pipe_model.specs.Output.{key_types}
use Rattle.pipe_model.specs.Query.{QueryTree}
use Rattle.pipe_model.specs.Rows.{AreChunksOf, chunk_rows, row_of, rows_from, total_height}
use Rattle.pipe_plan.specs.Run.{AreLimits, is_generic, Run}
use Rattle.pipe_spill.specs.SpillRow.{HasValues}
use Rattle.pipe_tables.proofs.ChunkValues.{chunk-values}
use Rattle.pipe_global.proofs.Covering.{all-left, all-right}
use Rattle.pipe_workers.specs.Workers.{TakesTurns}

-- as many rows as the chunks' heights
rows-count : (q : QueryTree) (i : ℕ) (cs : List DataChunk) → length (rows_from q i cs) ≡ total_height cs
rows-count q i [] = refl
rows-count q i (c ∷ cs) =
    omega (arith, length-append (chunk_rows q i c.frame) (rows_from q (i + 1) cs), length-map-range_with_len (row_of q i c.frame) 0 c.frame.height, rows-count q (i + 1) cs, sum_by-cons (λ (c : DataChunk). c.frame.height) c cs)

-- rows of few chunks, of the types, have values of the types
rows-valued : (q : QueryTree) (i : ℕ) (cs : List DataChunk) → All (IsRowOf q) (rows_from q i cs) → i + length cs < 2 ^ 32 → total_height cs < 2 ^ 32
    → All (HasValues (key_types q) (input_types q)) (rows_from q i cs)
rows-valued q i [] all few small = All-nil (HasValues (key_types q) (input_types q))
rows-valued q i (c ∷ cs) all few small =
    let heights = sum_by-cons (λ (c : DataChunk). c.frame.height) c cs in
    All-append (HasValues (key_types q) (input_types q)) (chunk_rows q i c.frame) (rows_from q (i + 1) cs)
    (chunk-values q i c.frame (chunk_rows q i c.frame) refl (all-left (IsRowOf q) (chunk_rows q i c.frame) (rows_from q (i + 1) cs) all) (omega (arith, few)) (omega (arith, small, heights)))
    (rows-valued q (i + 1) cs (all-right (IsRowOf q) (chunk_rows q i c.frame) (rows_from q (i + 1) cs) all) (omega (arith, few)) (omega (arith, small, heights)))

-- its workers take turns
pub takes-turns : (q : Query) (r : Run) → IsSound q → IsGroupable (query_tree q) → r.query ≡ query_tree q → AreLimits r.limits → is_generic r.limits.sink ≡ true → AreChunksOf r.query r.chunks
    → length r.stores ≡ r.limits.partitions → All (λ s. s.held < 2 ^ 63) r.stores → TakesTurns r
takes-turns q r sound groupable query limits generic chunks stores former =
    let asked : AreChunksOf (query_tree q) r.chunks = subst (λ (t : QueryTree). AreChunksOf t r.chunks) query chunks in
    let valued : All (HasValues (key_types (query_tree q)) (input_types (query_tree q))) (rows_from (query_tree q) 0 r.chunks) =
    rows-valued (query_tree q) 0 r.chunks (rows-typed q 0 r.chunks sound asked.columns asked.typed) (omega (arith, asked.number)) asked.rows in
    record {
      runnable = record {
        limits = limits;
        query = subst IsGroupable (sym query) groupable;
        typed = subst (λ (t : QueryTree). All (HasValues (key_types t) (input_types t)) (rows_from t 0 r.chunks)) (sym query) valued;
        few = omega (arith, rows-count r.query 0 r.chunks, chunks.rows);
        stores = stores;
        former = former;
      };
      generic = generic;
      chunks = chunks;
    }
