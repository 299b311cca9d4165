use Rattle.std.proofs.Common.{◌≡◌, ◌<◌, ◌^◌, ℕ, All, List, ap, arith, false, length, map, refl, slice_index_or, subst, sym, true}
use Rattle.std.proofs.lemmas.Result.{IfErr-weaker, IfOk-weaker}
use Rattle.pipe_aggs.specs.declared.query.Query.{Query}
use Rattle.pipe_aggs.specs.CheckedQuery.{IsSound}
use Rattle.pipe_aggs.specs.QueryTrees.{query_tree}
use Rattle.pipe_columns.specs.declared.data_chunk.DataChunk.{DataChunk}
use Rattle.pipe_model.specs.Output.{output_schema}
use Rattle.pipe_plan.specs.Run.{Run}
use Rattle.pipe_spill.specs.Store.{HasHeld}
use Rattle.pipe_keyed.specs.Tables.{Table}
use Rattle.pipe_global.specs.Partition.{PartitionSeen}
use Rattle.pipe_run.specs.Ending.{IsAnswerCause}
use Rattle.pipe_run.specs.Setting.{run_over, Setting}
use Rattle.pipe_run.specs.Wholes.{IsRunWhole}
use Rattle.pipe_asked.specs.Sources.{IsGiveCause, KeepsAsked, unasked}
use Rattle.pipe_asked.specs.Wholes.{IsAnswerWhole}
use Rattle.pipe_run.proofs.AnswerOfRun.{ended-cause, ended-whole}
use Rattle.pipe_run.proofs.EndedSource.{ended-rows, ended-source}
use Rattle.pipe_run.proofs.answer.answer_of_run.Goals as goal

pub answer_of_parts-requires-clause-source : goal.answer_of_parts-requires-clause-source
answer_of_parts-requires-clause-source g c κs within =
    let chunks : List DataChunk = map (λ m. m.value) c.args.chunks.now in
    let r : Run = run_over c.args.begun.now false chunks in
    let q : Query = c.begun.inside.query in
    let closed : List PartitionSeen = c.args.closed.items in
    let of_query : r.query ≡ query_tree q = ap (λ (x : Setting). query_tree x.query) (sym c.begun.view_is) in
    let told : (p : ℕ) (d : PartitionSeen) → p < length closed → HasHeld (slice_index_or closed p d).store.told (slice_index_or closed p d).store.held =
    subst (λ (l : List PartitionSeen). (p : ℕ) (d : PartitionSeen) → p < length l → HasHeld (slice_index_or l p d).store.told (slice_index_or l p d).store.held) c.as_slice.ensures.value c.recall_told.ensures in
    let few : length closed < 2 ^ 32 = omega (arith, c.requires.whole.count, c.requires.few) in
    ended-source r q closed c.in-Ok.local (query_tree q).slice c.requires.run of_query refl c.requires.whole c.in-Ok.ensures.shape c.in-Ok.ensures.holds told few

pub answer_of_parts-requires-clause-some : goal.answer_of_parts-requires-clause-some
answer_of_parts-requires-clause-some g c = omega (arith, c.requires.whole.count, c.requires.run.limits.partitions)

pub returns-clause-answer : goal.returns-clause-answer
returns-clause-answer g c =
    let chunks : List DataChunk = map (λ m. m.value) c.args.chunks.now in
    let r : Run = run_over c.args.begun.now false chunks in
    let q : Query = c.begun.inside.query in
    let closed : List PartitionSeen = c.args.closed.items in
    let of_query : r.query ≡ query_tree q = ap (λ (x : Setting). query_tree x.query) (sym c.begun.view_is) in
    let told : (p : ℕ) (d : PartitionSeen) → p < length closed → HasHeld (slice_index_or closed p d).store.told (slice_index_or closed p d).store.held =
    subst (λ (l : List PartitionSeen). (p : ℕ) (d : PartitionSeen) → p < length l → HasHeld (slice_index_or l p d).store.told (slice_index_or l p d).store.held) c.as_slice.ensures.value c.recall_told.ensures in
    let local : Table = c.in-Ok.local in
    let sound : IsSound q = c.query-query.ensures.sound in
    let is = g.F.Form.is c.args.form.now in
    IfOk-weaker c.answer_of_parts.result.0 (IsAnswerWhole is (unasked q closed local (query_tree q).slice)) (IsRunWhole is r)
    (λ w whole. ended-whole is r (unasked q closed local (query_tree q).slice) w of_query c.requires.whole.count
    (λ all_tell. ended-rows r q closed local (query_tree q).slice c.requires.run of_query refl c.requires.whole c.in-Ok.ensures.shape c.in-Ok.ensures.holds told all_tell sound c.requires.chunks) whole)
    c.answer_of_parts.ensures.whole

pub answer_of_parts-requires-clause-takes : goal.answer_of_parts-requires-clause-takes
answer_of_parts-requires-clause-takes g c κs within = subst (λ (x : Setting). g.F.Form.takes c.args.form.now (output_schema (query_tree x.query))) (sym c.begun.view_is) c.requires.takes

pub returns-clause-cause : goal.returns-clause-cause
returns-clause-cause g c =
    let chunks : List DataChunk = map (λ m. m.value) c.args.chunks.now in
    let r : Run = run_over c.args.begun.now false chunks in
    let q : Query = c.begun.inside.query in
    let closed : List PartitionSeen = c.args.closed.items in
    let local : Table = c.in-Ok.local in
    let after : List PartitionSeen = c.answer_of_parts.result.1.items in
    let kept : KeepsAsked (unasked q closed local (query_tree q).slice) (unasked q after local (query_tree q).slice) = record { query = refl; partitions = c.answer_of_parts.ensures.kept; given = omega arith } in
    IfErr-weaker c.answer_of_parts.result.0 (λ e. IsGiveCause (unasked q closed local (query_tree q).slice) (unasked q after local (query_tree q).slice) e) (λ e. IsAnswerCause r closed after e)
    (λ e cause. ended-cause r q closed after local (unasked q after local (query_tree q).slice) e c.requires.whole kept refl cause)
    c.answer_of_parts.ensures.cause
