-- A run that goes on from one that can be made can be made, where its query may be asked of the chunks.
use Rattle.std.proofs.Common.{◌≡◌, ◌∙◌, ◌+◌, ◌^◌, ◌<◌, ◌≤◌, ℕ, Bool, true, List, [], ◌∷◌, ◌++◌, length, map, refl, arith, length-append}
use Rattle.std.specs.List.{All, zip}
use Rattle.std.proofs.lemmas.List.Elements.{All-append, All-cons, All-head, All-nil, All-tail}
use Rattle.std.proofs.lemmas.List.FromFn.{length-map-range_with_len}
use Rattle.std.proofs.lemmas.List.Sums.{sum_by-cons}
use Rattle.pipe_columns.specs.declared.data_chunk.DataChunk.{DataChunk}
use Rattle.pipe_aggs.specs.CheckedQuery.{input_types, IsSound}
use Rattle.pipe_aggs.specs.QueryTrees.{query_tree}
use Rattle.pipe_inputs.specs.RowTypes.{IsRowOf}
use Rattle.pipe_inputs.proofs.TypeFacts.{rows-typed}
use Rattle.pipe_model.specs.Output.{key_types}
use Rattle.pipe_model.specs.Query.{QueryTree}
use Rattle.pipe_model.specs.Rows.{AreChunksOf, chunk_rows, row_of, rows_from, total_height}
use Rattle.pipe_plan.specs.Run.{is_generic, StoreSeen}
use Rattle.pipe_spill.specs.SpillRow.{HasValues}
use Rattle.pipe_tables.proofs.ChunkValues.{chunk-values}
use Rattle.pipe_global.specs.Partition.{IsRunnable}
use Rattle.pipe_global.proofs.Covering.{all-left, all-right}
use Rattle.pipe_workers.specs.Workers.{TakesTurns}
use Rattle.pipe_run.specs.Setting.{run_over, Setting, with_faults}
use Rattle.pipe_run.proofs.Carrying.{onto}

-- chunks have as many rows as they are high
rows-long : (q : QueryTree) (i : ℕ) (cs : List DataChunk) → length (rows_from q i cs) ≡ total_height cs
rows-long q i [] = refl
rows-long q i (c ∷ cs) = omega (
  arith,
  length-append (chunk_rows q i c.frame) (rows_from q (i + 1) cs),
  length-map-range_with_len (λ n. row_of q i c.frame n) 0 c.frame.height,
  rows-long q (i + 1) cs,
  sum_by-cons (λ (d : DataChunk). d.frame.height) c cs,
)

-- the rows of few chunks can be spilled
values-from : (q : QueryTree) (i : ℕ) (cs : List DataChunk) → All (IsRowOf q) (rows_from q i cs) → i + length cs ≤ 2 ^ 32 → total_height cs < 2 ^ 32 → All (HasValues (key_types q) (input_types q)) (rows_from q i cs)
values-from q i [] all few low = All-nil (HasValues (key_types q) (input_types q))
values-from q i (c ∷ cs) all few low =
    let here = chunk_rows q i c.frame in
    let high : total_height (c ∷ cs) ≡ c.frame.height + total_height cs = sum_by-cons (λ (d : DataChunk). d.frame.height) c cs in
    All-append (HasValues (key_types q) (input_types q)) here (rows_from q (i + 1) cs)
    (chunk-values q i c.frame here refl (all-left (IsRowOf q) here (rows_from q (i + 1) cs) all) (omega (arith, few)) (omega (arith, low, high)))
    (values-from q (i + 1) cs (all-right (IsRowOf q) here (rows_from q (i + 1) cs) all) (omega (arith, few)) (omega (arith, low, high)))

-- counting elsewhere changes neither how many stores there are nor what they hold
pub counted-long : (stores : List StoreSeen) (faults : List ℕ) → length faults ≡ length stores → length (map (λ e. with_faults e.0 e.1) (zip stores faults)) ≡ length stores
counted-long [] [] same = refl
counted-long [] (n ∷ faults) same = absurd (omega (arith, same))
counted-long (s ∷ stores) [] same = absurd (omega (arith, same))
counted-long (s ∷ stores) (n ∷ faults) same = omega (arith, counted-long stores faults (omega (arith, same)))

counted-former : (stores : List StoreSeen) (faults : List ℕ) → length faults ≡ length stores → All (λ (s : StoreSeen). s.held < 2 ^ 63) stores → All (λ (s : StoreSeen). s.held < 2 ^ 63) (map (λ e. with_faults e.0 e.1) (zip stores faults))
counted-former [] [] same all = All-nil (λ (s : StoreSeen). s.held < 2 ^ 63)
counted-former [] (n ∷ faults) same all = absurd (omega (arith, same))
counted-former (s ∷ stores) [] same all = absurd (omega (arith, same))
counted-former (s ∷ stores) (n ∷ faults) same all =
    All-cons (λ (x : StoreSeen). x.held < 2 ^ 63) (with_faults s n) (map (λ e. with_faults e.0 e.1) (zip stores faults)) (All-head (λ (x : StoreSeen). x.held < 2 ^ 63) s stores all)
    (counted-former stores faults (omega (arith, same)) (All-tail (λ (x : StoreSeen). x.held < 2 ^ 63) s stores all))

module _ (x : Setting) (o : Bool) (before more : List DataChunk) (faults : List ℕ) (same : length faults ≡ length x.stores)
    (run : IsRunnable (run_over x true before)) (sound : IsSound x.query) (chunks : AreChunksOf (query_tree x.query) (before ++ more)) where
  pub runnable-on : IsRunnable (onto x o before more faults)
  runnable-on =
      let q = query_tree x.query in
      let all = rows-typed x.query 0 (before ++ more) sound chunks.columns chunks.typed in
      record {
        limits = run.limits;
        query = run.query;
        typed = values-from q 0 (before ++ more) all (omega (arith, chunks.number)) chunks.rows;
        few = omega (arith, rows-long q 0 (before ++ more), chunks.rows);
        stores = counted-long x.stores faults same ∙ run.stores;
        former = counted-former x.stores faults same run.former;
      }

  pub turns-on : is_generic x.limits.sink ≡ true → TakesTurns (onto x o before more faults)
  turns-on generic = record { runnable = runnable-on; generic = generic; chunks = chunks }
