use Rattle.std.proofs.Common.{◌≡◌, ◌∙◌, ◌+◌, ◌<◌, ◌^◌, ◌∷◌, ◌++◌, [], List, ap, arith}
use Rattle.pipe_columns.specs.declared.data_chunk.DataChunk.{DataChunk}
use Rattle.pipe_columns.specs.Frame.{HoldsTypes}
use Rattle.pipe_aggs.specs.QueryTrees.{query_tree}
use Rattle.pipe_model.specs.Rows.{total_height}
use Rattle.pipe_sinks.specs.Runs.{Run}
use Rattle.pipe_sinks.specs.RunLayout.{HoldsChunks}
use Rattle.pipe_keyed.specs.Tables.{Table}
use Rattle.pipe_sinks.proofs.MarkFacts.{marked, marked-push}
use Rattle.pipe_sinks.proofs.RunFacts.{later-apart, on-err, run-both, run-few, run-same, single-height, single-taken}
use Rattle.pipe_sinks.proofs.sink_run.SinkRun.take_apart.Goals as goal

pub add_apart-requires-clause-height : goal.add_apart-requires-clause-height
add_apart-requires-clause-height c =
    let taken : List DataChunk = marked c.self.inside.taken.items in
    let chunk : DataChunk = c.args.chunk.now in
    let same : taken ≡ c.args.self.now.taken = ap (λ (r : Run). r.taken) c.self.view_is in
    let below : total_height taken + chunk.frame.height < 2 ^ 32 = rw same c.requires.few in
    omega (arith, below)

pub add_apart-requires-clause-shape : goal.add_apart-requires-clause-shape
add_apart-requires-clause-shape c = c.self.invariant.kept.shape

pub add_apart-requires-clause-sole : goal.add_apart-requires-clause-sole
add_apart-requires-clause-sole c = c.self.invariant.keyed

pub add_apart-requires-clause-few : goal.add_apart-requires-clause-few
add_apart-requires-clause-few c =
    let taken : List DataChunk = marked c.self.inside.taken.items in
    let chunk : DataChunk = c.args.chunk.now in
    let same : taken ≡ c.args.self.now.taken = ap (λ (r : Run). r.taken) c.self.view_is in
    let asked = ap (λ (r : Run). r.query) c.self.view_is in
    let below : total_height taken + chunk.frame.height < 2 ^ 32 = rw same c.requires.few in
    let few : total_height taken + total_height (chunk ∷ []) < 2 ^ 32 = omega (arith, below, single-height chunk) in
    let small : chunk.frame.height < 2 ^ 32 = omega (arith, below) in
    λ (part : Table) (types : HoldsTypes chunk.frame) (holds : HoldsChunks (query_tree c.self.inside.query.now) (chunk ∷ []) part).
    run-few _ _ taken c.self.inside.table c.self.invariant (chunk ∷ []) part
    (single-taken (query_tree c.self.inside.query.now) chunk (rw asked c.requires.fits) types small) holds few

pub invariant_of-self-in_err-add_apart : goal.invariant_of-self-in_err-add_apart
invariant_of-self-in_err-add_apart c =
    run-same _ _ (marked c.self.inside.taken.items) c.self.inside.table c.self.invariant c.add_apart.new.table _
    c.in_err-add_apart.ensures.err (ap marked c.in_ok-reserve.ensures.items)

pub returns-in_err-add_apart-clause-err : goal.returns-in_err-add_apart-clause-err
returns-in_err-add_apart-clause-err c =
    let run : List DataChunk → Run = λ l. record { query = c.self.inside.query.now; partitions = c.self.inside.partitions; taken = l } in
    on-err _ (ap run (ap marked c.in_ok-reserve.ensures.items) ∙ c.self.view_is)

pub invariant_of-self-2 : goal.invariant_of-self-2
invariant_of-self-2 c =
    let taken : List DataChunk = marked c.self.inside.taken.items in
    let chunk : DataChunk = c.args.chunk.now in
    let same : taken ≡ c.args.self.now.taken = ap (λ (r : Run). r.taken) c.self.view_is in
    let asked = ap (λ (r : Run). r.query) c.self.view_is in
    let below : total_height taken + chunk.frame.height < 2 ^ 32 = rw same c.requires.few in
    let few : total_height taken + total_height (chunk ∷ []) < 2 ^ 32 = omega (arith, below, single-height chunk) in
    let small : chunk.frame.height < 2 ^ 32 = omega (arith, below) in
    let over = c.in_ok-add_apart.ensures.took in
    run-both _ _ taken c.self.inside.table c.self.invariant (chunk ∷ []) over.part
    (single-taken (query_tree c.self.inside.query.now) chunk (rw asked c.requires.fits) over.typed small) over.holds few
    c.add_apart.new.table _ (rw same (later-apart c.args.self.now.taken chunk c.requires.later)) over.joined over.shape
    (marked-push c.reserve.new.self.items c.push_reserved.new.self.items c.of.result chunk c.push_reserved.ensures.items c.of.ensures ∙ ap (λ (l : List DataChunk). l ++ chunk ∷ []) (ap marked c.in_ok-reserve.ensures.items))
