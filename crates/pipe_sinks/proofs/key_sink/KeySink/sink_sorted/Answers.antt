use Rattle.std.proofs.Common.{Some, List, sym, subst}
use Rattle.pipe_columns.specs.declared.any_value.AnyValue.{AnyValue}
use Rattle.pipe_aggs.specs.QueryTrees.{query_tree}
use Rattle.pipe_model.specs.Rows.{chunk_rows}
use Rattle.pipe_sinks.specs.SoleKeys.{AreGivenKeys, AreKeysOf}
use Rattle.pipe_sinks.specs.Runs.{Run}
use Rattle.pipe_sinks.proofs.ChunkRunFacts.{column-keys}
use Rattle.pipe_sinks.proofs.key_sink.KeySink.sink_sorted.Goals as goal

pub take-requires-clause-keys : goal.take-requires-clause-keys
take-requires-clause-keys g c =
    let q = query_tree c.args.self.now.query in
    subst (λ (r : Run). AreGivenKeys (query_tree r.query) c.args.chunk.now (Some c.values.result)) (sym c.self.view_is)
    (subst (λ (vs : List AnyValue). AreKeysOf (chunk_rows q c.args.chunk.now.chunk_index c.args.chunk.now.frame) vs) (sym c.values.ensures.values)
    (column-keys q c.args.chunk.now c.args.key.now c.requires.key))
