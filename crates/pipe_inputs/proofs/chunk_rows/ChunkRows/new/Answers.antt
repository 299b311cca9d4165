use Rattle.std.proofs.Common.{sym, subst}
use Rattle.std.specs.Prelude.{All}
use Rattle.pipe_aggs.specs.QueryTrees.{query_tree}
use Rattle.pipe_inputs.specs.RowTypes.{IsRowOf}
use Rattle.pipe_inputs.proofs.CellFacts.{rows_read_are}
use Rattle.pipe_inputs.proofs.TypeFacts.{chunk-typed}
use Rattle.pipe_inputs.proofs.chunk_rows.ChunkRows.new.Goals as goal

pub returns-clause-rows : goal.returns-clause-rows
returns-clause-rows c =
    rows_read_are (query_tree c.args.query.now) c.args.index c.height.result c.args.chunk.now.frame c.in_ok-keys.keys.items c.in_ok-inputs.inputs.items
    c.height.ensures.height c.in_ok-keys.ensures.values c.in_ok-inputs.ensures

pub returns-clause-typed : goal.returns-clause-typed
returns-clause-typed c =
    subst (All (IsRowOf (query_tree c.args.query.now))) (sym (returns-clause-rows c))
    (chunk-typed c.args.query.now c.args.index c.args.chunk.now.frame c.in_ok-keys.ensures.sound c.requires c.height.ensures.types)
