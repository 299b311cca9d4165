use Rattle.std.proofs.Common.{◌≡◌, ◌∙◌, ◌+◌, ◌<◌, ◌^◌, ◌∷◌, ◌++◌, [], List, ap, sym, subst, arith}
use Rattle.pipe_columns.specs.declared.data_chunk.DataChunk.{DataChunk}
use Rattle.pipe_aggs.specs.QueryTrees.{query_tree}
use Rattle.pipe_model.specs.Rows.{total_height}
use Rattle.pipe_sinks.specs.SoleKeys.{AreGivenKeys}
use Rattle.pipe_sinks.specs.Runs.{Run}
use Rattle.pipe_sinks.proofs.MarkFacts.{marked, marked-push}
use Rattle.pipe_sinks.proofs.RunFacts.{later-apart, on-err, room-once, run-alike, run-once, single-height, single-taken}
use Rattle.pipe_sinks.proofs.sink_run.SinkRun.take.Goals as goal

pub add_at_once-requires-clause-height : goal.add_at_once-requires-clause-height
add_at_once-requires-clause-height c =
    let taken : List DataChunk = marked c.self.inside.taken.items in
    let chunk : DataChunk = c.args.chunk.now in
    let same : taken ≡ c.args.self.now.taken = ap (λ (r : Run). r.taken) c.self.view_is in
    let asked = ap (λ (r : Run). r.query) c.self.view_is in
    let below : total_height taken + chunk.frame.height < 2 ^ 32 = rw same c.requires.takes.few in
    let few : total_height taken + total_height (chunk ∷ []) < 2 ^ 32 = omega (arith, below, single-height chunk) in
    let small : chunk.frame.height < 2 ^ 32 = omega (arith, below) in
    small

pub add_at_once-requires-clause-shape : goal.add_at_once-requires-clause-shape
add_at_once-requires-clause-shape c =
    c.self.invariant.kept.shape

pub add_at_once-requires-clause-sole : goal.add_at_once-requires-clause-sole
add_at_once-requires-clause-sole c =
    c.self.invariant.keyed

pub add_at_once-requires-clause-plain : goal.add_at_once-requires-clause-plain
add_at_once-requires-clause-plain c =
    sym c.keep_no_text.ensures ∙ c.if-not-keep_no_text.false

pub add_at_once-requires-clause-keys : goal.add_at_once-requires-clause-keys
add_at_once-requires-clause-keys c =
    subst (λ (r : Run). AreGivenKeys (query_tree r.query) c.args.chunk.now c.args.keys) (sym c.self.view_is) c.requires.keys

pub add_at_once-requires-clause-few : goal.add_at_once-requires-clause-few
add_at_once-requires-clause-few c =
    let taken : List DataChunk = marked c.self.inside.taken.items in
    let chunk : DataChunk = c.args.chunk.now in
    let same : taken ≡ c.args.self.now.taken = ap (λ (r : Run). r.taken) c.self.view_is in
    let asked = ap (λ (r : Run). r.query) c.self.view_is in
    let below : total_height taken + chunk.frame.height < 2 ^ 32 = rw same c.requires.takes.few in
    let few : total_height taken + total_height (chunk ∷ []) < 2 ^ 32 = omega (arith, below, single-height chunk) in
    let small : chunk.frame.height < 2 ^ 32 = omega (arith, below) in
    room-once _ _ taken c.self.inside.table c.self.invariant chunk few

pub invariant_of-self-in_err-add_at_once : goal.invariant_of-self-in_err-add_at_once
invariant_of-self-in_err-add_at_once c =
    let taken : List DataChunk = marked c.self.inside.taken.items in
    let chunk : DataChunk = c.args.chunk.now in
    let same : taken ≡ c.args.self.now.taken = ap (λ (r : Run). r.taken) c.self.view_is in
    let asked = ap (λ (r : Run). r.query) c.self.view_is in
    let below : total_height taken + chunk.frame.height < 2 ^ 32 = rw same c.requires.takes.few in
    let few : total_height taken + total_height (chunk ∷ []) < 2 ^ 32 = omega (arith, below, single-height chunk) in
    let small : chunk.frame.height < 2 ^ 32 = omega (arith, below) in
    run-alike _ _ taken c.self.inside.table c.self.invariant c.add_at_once.new.table _ c.in_err-add_at_once.ensures.alike (ap marked c.in_ok-reserve.ensures.items)

pub returns-in_err-add_at_once-clause-err : goal.returns-in_err-add_at_once-clause-err
returns-in_err-add_at_once-clause-err c =
    let run : List DataChunk → Run = λ l. record { query = c.self.inside.query.now; partitions = c.self.inside.partitions; taken = l } in
    on-err _ (ap run (ap marked c.in_ok-reserve.ensures.items) ∙ c.self.view_is)

pub invariant_of-self-2 : goal.invariant_of-self-2
invariant_of-self-2 c =
    let taken : List DataChunk = marked c.self.inside.taken.items in
    let chunk : DataChunk = c.args.chunk.now in
    let same : taken ≡ c.args.self.now.taken = ap (λ (r : Run). r.taken) c.self.view_is in
    let asked = ap (λ (r : Run). r.query) c.self.view_is in
    let below : total_height taken + chunk.frame.height < 2 ^ 32 = rw same c.requires.takes.few in
    let few : total_height taken + total_height (chunk ∷ []) < 2 ^ 32 = omega (arith, below, single-height chunk) in
    let small : chunk.frame.height < 2 ^ 32 = omega (arith, below) in
    run-once _ _ taken c.self.inside.table c.self.invariant chunk few (single-taken (query_tree c.self.inside.query.now) chunk (rw asked c.requires.takes.fits) c.add_at_once.ensures.types small)
    c.add_at_once.new.table _ (rw same (later-apart c.args.self.now.taken chunk c.requires.takes.later)) c.in_ok-add_at_once.ensures.took
    (marked-push c.reserve.new.self.items c.push_reserved.new.self.items c.of.result chunk c.push_reserved.ensures.items c.of.ensures ∙ ap (λ (l : List DataChunk). l ++ chunk ∷ []) (ap marked c.in_ok-reserve.ensures.items))
