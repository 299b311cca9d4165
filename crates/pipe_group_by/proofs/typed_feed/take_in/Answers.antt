use Rattle.std.proofs.Common.{rules, ◌≡◌, ◌++◌, List, length, map, subst, sym, vec_len}
use Rattle.pipe_columns.specs.declared.data_chunk.DataChunk.{DataChunk}
use Rattle.pipe_aggs.specs.QueryTrees.{query_tree}
use Rattle.pipe_model.specs.Rows.{AreChunksOf}
use Rattle.std.specs.declared.snapshot.Snapshot.{Snapshot}
use Rattle.pipe_group_by.specs.Positions.{numbered}
use Rattle.pipe_group_by.specs.Taken.{HaveTaken}
use Rattle.pipe_group_by.proofs.Numbering.{asked-behind}
use Rattle.pipe_group_by.proofs.Taking.{have-positions, taken-behind}
use Rattle.pipe_group_by.proofs.typed_feed.take_in.Goals as goal

pub typed_round-requires-clause-positions : goal.typed_round-requires-clause-positions
typed_round-requires-clause-positions g c κs within =
    let now : c.deref-3.result.now ≡ numbered c.len.result c.args.chunks.items = search rules in
    let same : length c.deref-2.result.now ≡ c.len.result = search rules in
    have-positions (length c.deref-2.result.now) c.len.result c.args.chunks.items c.deref-3.result.now same now

pub typed_round-requires-clause-asked : goal.typed_round-requires-clause-asked
typed_round-requires-clause-asked g c κs within =
    let now : c.deref-3.result.now ≡ numbered c.len.result c.args.chunks.items = search rules in
    subst (λ (l : List DataChunk). AreChunksOf (query_tree c.args.query.now) (map (λ m. m.value) c.deref-2.result.now ++ l)) (sym now)
    (subst (λ (b : List (Snapshot DataChunk)). AreChunksOf (query_tree c.args.query.now) (map (λ m. m.value) b ++ numbered c.len.result c.args.chunks.items)) (sym c.deref-2.ensures.value)
    (asked-behind (query_tree c.args.query.now) (map (λ m. m.value) c.args.before.items) c.args.chunks.items c.len.result c.requires.asked))

pub returns-clause-sinks : goal.returns-clause-sinks
returns-clause-sinks g c =
    let now : c.deref-3.result.now ≡ numbered c.len.result c.args.chunks.items = search rules in
    taken-behind c.args.query.now c.args.partitions (vec_len c.args.sinks) (map (λ m. m.value) c.args.before.items) c.args.chunks.items c.len.result c.in_ok-sinks.sinks.items
    (subst (λ (l : List DataChunk). HaveTaken c.args.query.now c.args.partitions (vec_len c.args.sinks) (map (λ m. m.value) c.args.before.items ++ l) c.in_ok-sinks.sinks.items) now
    (subst (λ (b : List (Snapshot DataChunk)). HaveTaken c.args.query.now c.args.partitions (vec_len c.args.sinks) (map (λ m. m.value) b ++ c.deref-3.result.now) c.in_ok-sinks.sinks.items) c.deref-2.ensures.value c.in_ok-sinks.ensures))
