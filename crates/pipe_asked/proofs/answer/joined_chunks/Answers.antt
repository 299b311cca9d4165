use Rattle.std.proofs.Common.{◌≡◌, ◌∙◌, [], ◌++◌, List, ap, sym, subst}
use Rattle.std.specs.Option.{option_to_list}
use Rattle.std.specs.Prelude.{IfSome}
use Rattle.pipe_aggs.specs.declared.query.Query.{Query}
use Rattle.pipe_aggs.specs.QueryTrees.{query_tree}
use Rattle.pipe_columns.specs.declared.data_chunk.DataChunk.{DataChunk}
use Rattle.pipe_columns.specs.declared.schema.Field.{Field}
use Rattle.pipe_columns.specs.Frame.{FitsSchema, frame_of}
use Rattle.pipe_model.specs.Output.{output_schema}
use Rattle.pipe_asked.specs.Sources.{chunks_left, source_query}
use Rattle.pipe_asked.proofs.Joined.{chunk-alike, chunk-taken, joining-all, joining-more, joining-none}
use Rattle.pipe_asked.proofs.Asking.{cause-later, others-trans}
use Rattle.pipe_asked.proofs.answer.joined_chunks.Goals as goal

pub none-requires : goal.none-requires
none-requires g c = subst (g.F.Form.takes c.args.form.now) (sym c.output_schema.ensures.schema) c.requires.takes

pub chunks-init : goal.chunks-init
chunks-init g c =
    let is = g.F.Form.is c.args.form.now in
    let schema : c.output_schema.result.now ≡ output_schema (source_query c.args.source.now) = c.output_schema.ensures.schema ∙ ap (λ (q : Query). output_schema (query_tree q)) (sym c.requires.query) in
    joining-none is c.args.source.now c.in-Ok.whole (subst (λ (fields : List Field). is c.in-Ok.whole (frame_of fields [])) schema c.in-Ok.ensures)

pub put_frame_below-requires-clause-takes : goal.put_frame_below-requires-clause-takes
put_frame_below-requires-clause-takes g c κs within =
    let fits : FitsSchema (output_schema (source_query c.chunks.source)) c.in-Some.chunk.frame = subst (λ o. IfSome o (λ (d : DataChunk). FitsSchema (output_schema (source_query c.chunks.source)) d.frame)) c.in-Some.is c.in-Ok-next_chunk.ensures.fields in
    chunk-taken (g.F.Form.is c.args.form.now) c.args.source.now c.chunks.source c.chunks.whole c.chunks.invariant (g.F.Form.takes c.args.form.now) c.in-Some.chunk fits
    (subst (λ (q : Query). g.F.Form.takes c.args.form.now (output_schema (query_tree q))) (sym c.requires.query) c.requires.takes)

pub put_frame_below-requires-clause-fields : goal.put_frame_below-requires-clause-fields
put_frame_below-requires-clause-fields g c κs within =
    let fits : FitsSchema (output_schema (source_query c.chunks.source)) c.in-Some.chunk.frame = subst (λ o. IfSome o (λ (d : DataChunk). FitsSchema (output_schema (source_query c.chunks.source)) d.frame)) c.in-Some.is c.in-Ok-next_chunk.ensures.fields in
    chunk-alike (g.F.Form.is c.args.form.now) c.args.source.now c.chunks.source c.chunks.whole c.chunks.invariant c.in-Some.chunk fits

pub chunks-preserved : goal.chunks-preserved
chunks-preserved g c =
    let chunk : DataChunk = c.in-Some.chunk in
    let fits : FitsSchema (output_schema (source_query c.chunks.source)) chunk.frame = subst (λ o. IfSome o (λ (d : DataChunk). FitsSchema (output_schema (source_query c.chunks.source)) d.frame)) c.in-Some.is c.in-Ok-next_chunk.ensures.fields in
    joining-more (g.F.Form.is c.args.form.now) c.args.source.now c.chunks.source c.chunks.whole c.chunks.invariant c.next_chunk.new.self c.put_frame_below.new.whole chunk
    c.in-Ok-next_chunk.ensures.kept c.in-Ok-next_chunk.ensures.others fits c.put_frame_below.ensures.tall c.in-Ok-put_frame_below.ensures.below
    c.in-Ok-next_chunk.ensures.stands
    (λ rs all. c.in-Ok-next_chunk.ensures.chunk rs all ∙ ap (λ o. option_to_list o ++ chunks_left rs c.next_chunk.new.self) c.in-Some.is)

pub returns-in-None-clause-whole : goal.returns-in-None-clause-whole
returns-in-None-clause-whole g c = joining-all (g.F.Form.is c.args.form.now) c.args.source.now c.chunks.source c.chunks.whole c.chunks.invariant (c.in-Ok-next_chunk.ensures.finished.0 c.in-None.is)

pub returns-in-Err-clause-cause : goal.returns-in-Err-clause-cause
returns-in-Err-clause-cause g c =
    cause-later c.args.source.now.asked c.chunks.source.asked c.next_chunk.new.self.asked c.in-Err.error c.chunks.invariant.kept c.chunks.invariant.others c.in-Err.ensures.cause

pub returns-in-None-clause-calm : goal.returns-in-None-clause-calm
returns-in-None-clause-calm g c =
    (others-trans c.args.source.now.asked c.chunks.source.asked c.next_chunk.new.self.asked c.chunks.invariant.kept c.in-Ok-next_chunk.ensures.kept c.chunks.invariant.others c.in-Ok-next_chunk.ensures.others).calm
