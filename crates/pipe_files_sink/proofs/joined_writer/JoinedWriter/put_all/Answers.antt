use Rattle.std.proofs.Common.{◌≡◌, ◌∙◌, ◌++◌, ◌∷◌, [], arith, rules, subst, ap, sym, append_assoc, List}
use Rattle.std.proofs.lemmas.Grind.{common_steps}
use Rattle.pipe_columns.specs.declared.data_chunk.DataChunk.{DataChunk}
use Rattle.pipe_lines.specs.Rows.{Row, frame_rows}
use Rattle.pipe_writers.specs.WriteOrder.{rows_of_chunks}
use Rattle.pipe_files_sink.specs.Joined.{HasPut}
use Rattle.pipe_files_sink.proofs.JoinedFacts.{front-more, on-err, rows-both, rows-more, waits-both}
use Rattle.pipe_files_sink.proofs.joined_writer.JoinedWriter.put_all.Goals as goal

pub loop-chunk-preserved : goal.loop-chunk-preserved
loop-chunk-preserved g c =
    let so_far = c.loop-chunk.invariant in
    record {
      can = tt;
      ends = tt;
      rest = grind (arith, common_steps);
      stands = λ rows since put. subst (λ rs. HasPut (g.W.SinkWriter.stands c.put.new.self.writer) c.put.new.self.waiting rs since)
          (rows-more rows c.loop-chunk.yielded c.in-Some.chunk) (c.in_ok-put.ensures.stands (rows ++ rows_of_chunks c.loop-chunk.yielded) since (so_far.stands rows since put));
      waiting = c.in_ok-put.ensures.waiting ∙ rw (so_far.waiting, so_far.least) (sym (waits-both c.args.self.now.least c.args.self.now.waiting c.loop-chunk.yielded (c.in-Some.chunk ∷ [])));
      least = search rules;
      is_open = search rules;
      format = search rules;
      tells = search rules;
      later = search rules;
    }

pub returns-in_err-put-clause-front : goal.returns-in_err-put-clause-front
returns-in_err-put-clause-front g c = on-err c.from_residual.result (λ rows since put.
    let before : List DataChunk = c.loop-chunk.yielded in
    let chunk : DataChunk = c.in-Some.chunk in
    let rest : List DataChunk = c.next.new.self.rest.items in
    let all : c.args.chunks.items ≡ before ++ (chunk ∷ rest) = search rules in
    front-more (g.W.SinkWriter.stands c.put.new.self.writer) ((rows ++ rows_of_chunks before) ++ frame_rows chunk.frame) (rows_of_chunks rest) _ since
    (c.in_err-put.ensures.front (rows ++ rows_of_chunks before) since (c.loop-chunk.invariant.stands rows since put))
    (append_assoc (rows ++ rows_of_chunks before) (frame_rows chunk.frame) (rows_of_chunks rest) ∙ append_assoc rows (rows_of_chunks before) (rows_of_chunks (chunk ∷ rest))
    ∙ ap (λ (rs : List Row). rows ++ rs) (sym (rows-both before (chunk ∷ rest)) ∙ ap rows_of_chunks (sym all))))

pub returns-clause-stands : goal.returns-clause-stands
returns-clause-stands g c rows since put =
    let all : c.args.chunks.items ≡ c.loop-chunk.yielded = grind (arith, common_steps) in
    rw all (c.loop-chunk.invariant.stands rows since put)
