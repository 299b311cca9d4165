use Rattle.std.proofs.Common.{refl, arith, rules, subst, List}
use Rattle.std.proofs.lemmas.Grind.{common_steps}
use Rattle.pipe_writer.specs.Wrote.{Wrote}
use Rattle.pipe_writer.specs.declared.message.SentChunk.{SentChunk}
use Rattle.pipe_writer.proofs.ArrivedFacts.{rest-more}
use Rattle.pipe_writer.proofs.writing.Writing.put_rest.Goals as goal

pub loop-chunk-preserved : goal.loop-chunk-preserved
loop-chunk-preserved g c =
    let so_far = c.loop-chunk.invariant in
    record {
      can = tt;
      ends = tt;
      rest = grind (arith, common_steps);
      number = grind (arith, common_steps);
      sender = refl;
      format = search rules;
      wrote = λ made maintain morsels came h.
          subst (λ (cs : List SentChunk). Wrote {kind = g.W.SinkWriter} made maintain morsels c.put.new.self cs)
          (rest-more came c.args.rest.sender c.args.rest.first c.loop-chunk.number c.loop-chunk.yielded c.in-Some.chunk so_far.number)
          (c.put.ensures.wrote made maintain morsels _ (so_far.wrote made maintain morsels came h));
    }
