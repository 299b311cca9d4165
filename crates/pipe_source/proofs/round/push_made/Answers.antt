use Rattle.std.proofs.Common.{◌∙◌, ◌++◌, [], ◌∷◌, arith, sym}
use Rattle.std.proofs.lemmas.Grind.{common_steps}
use Rattle.pipe_source.proofs.Places.{made-more}
use Rattle.pipe_source.proofs.round.push_made.Goals as goal

pub loop-place-preserved : goal.loop-place-preserved
loop-place-preserved c =
    let inv = c.loop-place.invariant in record {
      done = inv.done ++ (c.in-Ok.chunk ∷ []);
      made = made-more c.loop-place.yielded c.in-Some.place inv.done c.in-Ok.chunk inv.made (sym c.made_of.ensures ∙ c.in-Ok.is);
      rest = grind (arith, common_steps);
      pushed = grind (arith, common_steps);
    }
