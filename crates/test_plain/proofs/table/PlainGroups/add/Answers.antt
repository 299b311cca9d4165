use Rattle.std.proofs.Common.{arith, ◌≡◌, ◌∙◌, ◌+◌, ◌<◌, ◌^◌, List, [], ◌∷◌, ◌++◌, length, map, sym, ap, subst}
use Rattle.std.proofs.lemmas.List.{length-map, map-append}
use Rattle.std.specs.declared.snapshot.Snapshot.{Snapshot}
use Rattle.pipe_columns.specs.declared.data_chunk.DataChunk.{DataChunk}
use Rattle.pipe_columns.specs.Frame.{FitsSchema}
use Rattle.pipe_aggs.specs.HashAggs.{prototypes}
use Rattle.pipe_model.specs.Query.{QueryTree}
use Rattle.pipe_aggs.specs.QueryTrees.{query_tree}
use Rattle.pipe_model.specs.Rows.{chunk_rows, total_height}
use Rattle.test_plain.specs.Running.{group_seen, starts, Table, with_rows}
use Rattle.test_plain.specs.Taken.{HasTaken, PlainRun}
use Rattle.test_plain.proofs.TakenFacts.{taken-ascending, taken-hold, taken_more}
use Rattle.test_plain.proofs.table.PlainGroups.add.Goals as goal

-- the chunks that marks stand for
abbrev marked : List (Snapshot DataChunk) → List DataChunk
marked marks = map (λ s. s.value) marks

pub add_chunk-requires-clause-held : goal.add_chunk-requires-clause-held
add_chunk-requires-clause-held c =
    let same : marked c.self.inside.taken.items ≡ c.args.self.taken = ap (λ (r : PlainRun). r.taken) c.self.view_is in
    let height = c.args.chunk.now.frame.height in
    let few : total_height (marked c.self.inside.taken.items) + height < 2 ^ 32 = rw same c.requires.few in
    taken-hold (query_tree c.self.inside.query.now) (marked c.self.inside.taken.items) height (map group_seen c.self.inside.groups.items) c.self.invariant few

pub add_chunk-requires-clause-ascending : goal.add_chunk-requires-clause-ascending
add_chunk-requires-clause-ascending c =
    taken-ascending (query_tree c.self.inside.query.now) (marked c.self.inside.taken.items) (map group_seen c.self.inside.groups.items) c.self.invariant

pub invariant_of-result : goal.invariant_of-result
invariant_of-result c =
    let q : QueryTree = query_tree c.self.inside.query.now in
    let chunk : DataChunk = c.args.chunk.now in
    let taken : List DataChunk = marked c.self.inside.taken.items in
    let before : Table = map group_seen c.self.inside.groups.items in
    let after : Table = map group_seen c.add_chunk.new.table.items in
    let same : taken ≡ c.args.self.taken = ap (λ (r : PlainRun). r.taken) c.self.view_is in
    let asked : c.self.inside.query.now ≡ c.args.self.query = ap (λ (r : PlainRun). r.query) c.self.view_is in
    let fits : FitsSchema q.schema chunk.frame = rw asked c.requires.fits in
    let few : total_height taken + chunk.frame.height < 2 ^ 32 = rw same c.requires.few in
    let number : length taken + 1 < 2 ^ 32 = rw same c.requires.number in
    let rows : after ≡ with_rows (starts (prototypes q)) before (chunk_rows q (length taken) chunk.frame) =
    c.in_ok-add_chunk.ensures.rows ∙ ap (λ n. with_rows (starts (prototypes q)) before (chunk_rows q n chunk.frame)) (omega (arith, c.len-index.ensures, length-map c.self.inside.taken.items (λ s. s.value))) in
    let more : marked c.push.new.self.items ≡ taken ++ (chunk ∷ []) =
    ap marked c.in_ok-push.ensures.items ∙ map-append (λ s. s.value) c.self.inside.taken.items (c.of.result ∷ []) ∙ ap (λ (x : DataChunk). taken ++ (x ∷ [])) c.of.ensures in
    let T : List DataChunk → Type 0 = λ chunks. HasTaken q chunks after in
    subst T (sym more) (taken_more q taken chunk before after c.self.invariant fits c.add_chunk.ensures.typed few number rows)
