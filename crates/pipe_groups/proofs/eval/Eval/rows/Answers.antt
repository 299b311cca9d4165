use Rattle.std.proofs.Common.{◌≡◌, List, length, ap, arith}
use Rattle.std.proofs.lemmas.List.FromFn.{length-map-range_with_len}
use Rattle.pipe_aggs.specs.QueryTrees.{query_tree}
use Rattle.pipe_columns.specs.Row.{Row}
use Rattle.pipe_model.specs.Rows.{chunk_rows, row_of}
use Rattle.pipe_groups.proofs.eval.Eval.rows.Goals as goal

pub owned_rows-requires-clause-placed : goal.owned_rows-requires-clause-placed
owned_rows-requires-clause-placed c =
    let q = query_tree c.self.inside.query.now in
    let frame = c.args.chunk.now.frame in
    let i = c.args.chunk.now.chunk_index in
    let all : length (chunk_rows q i frame) ≡ frame.height = length-map-range_with_len (λ n. row_of q i frame n) 0 frame.height in
    let same : length c.in_ok-rows.rows ≡ length (chunk_rows q i frame) = ap (λ (l : List Row). length l) c.in_ok-rows.ensures.rows in
    omega (arith, c.requires.placed, all, same)

pub returns : goal.returns
returns c = rw (c.key_types.ensures, c.in_ok-rows.ensures.rows, c.self.view_is) at c.owned_rows.ensures
