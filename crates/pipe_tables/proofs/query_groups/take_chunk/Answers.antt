use Rattle.std.proofs.Common.{arith, ◌≡◌, ◌∙◌, ◌+◌, ◌<◌, ◌^◌, List, [], ◌∷◌, ◌++◌, length, map, sym, ap, subst}
use Rattle.std.proofs.lemmas.List.{length-map, map-append}
use Rattle.std.specs.declared.snapshot.Snapshot.{Snapshot}
use Rattle.pipe_columns.specs.declared.data_chunk.DataChunk.{DataChunk}
use Rattle.pipe_model.specs.Query.{QueryTree}
use Rattle.pipe_aggs.specs.QueryTrees.{query_tree}
use Rattle.pipe_tables.specs.Taken.{TableHasTaken}
use Rattle.pipe_tables.proofs.TakenFacts.{room-for-chunk, taken-more}
use Rattle.pipe_tables.proofs.query_groups.take_chunk.Goals as goal

-- the chunks that marks stand for
abbrev marked : List (Snapshot DataChunk) → List DataChunk
marked marks = map (λ s. s.value) marks

-- one mark more
marked-more : (marks more : List (Snapshot DataChunk)) (s : Snapshot DataChunk) (chunk : DataChunk) → more ≡ marks ++ s ∷ [] → s.value ≡ chunk → marked more ≡ marked marks ++ chunk ∷ []
marked-more marks more s chunk e is = ap marked e ∙ map-append (λ s. s.value) marks (s ∷ []) ∙ ap (λ (x : DataChunk). marked marks ++ (x ∷ [])) is

pub add_chunk-requires-clause-few : goal.add_chunk-requires-clause-few
add_chunk-requires-clause-few c = room-for-chunk (query_tree c.args.query.now) (marked c.args.taken.now.items) c.args.chunk.now.frame.height c.args.table.now c.requires.before c.requires.few

pub returns-clause-after : goal.returns-clause-after
returns-clause-after c =
    let q : QueryTree = query_tree c.args.query.now in
    let chunk : DataChunk = c.args.chunk.now in
    let marks : List (Snapshot DataChunk) = c.args.taken.now.items in
    let taken : List DataChunk = marked marks in
    let count : length taken ≡ length marks = length-map marks (λ s. s.value) in
    let number : length taken + 1 < 2 ^ 32 = omega (arith, count, c.requires.number) in
    let at : c.len-index.result ≡ length taken = omega (arith, c.len-index.ensures, count) in
    let added = c.in_ok-add_chunk.ensures in
    subst (λ (chunks : List DataChunk). TableHasTaken q chunks c.add_chunk.new.table) (sym (marked-more marks c.push.new.self.items c.of.result chunk c.in_ok-push.ensures.items c.of.ensures))
    (taken-more q taken chunk _ c.args.table.now c.add_chunk.new.table c.requires.before at c.requires.fits added.types c.requires.few number added.shape.0 added.shape.1 added.holds added.typed)

pub returns-clause-taken : goal.returns-clause-taken
returns-clause-taken c = marked-more c.args.taken.now.items c.push.new.self.items c.of.result c.args.chunk.now c.in_ok-push.ensures.items c.of.ensures
