use Rattle.std.proofs.Common.{rules, arith, ap, ◌≡◌, ◌∙◌, ◌≤◌, List, ℕ, length, take, drop, take-add}
use Rattle.std.proofs.KnownBytes.{Appends-trans}
use Rattle.std.proofs.lemmas.List.{length-drop, take_rest}
use Rattle.pipe_io.proofs.output.write_all.Goals as goal

pub loop-turn-preserved : goal.loop-turn-preserved
loop-turn-preserved g c =
    let output = g.O.Output in
    let inv = c.loop-turn.invariant in
    let bytes : List ℕ = c.args.bytes.now in
    let piece = take_rest bytes c.loop-turn.done in
    let wrote = rw piece at c.in-Ok.ensures.bytes in
    let more = Appends-trans (output.told c.args.output.now) (output.told c.loop-turn.output) (output.told c.write.new.self) (take c.loop-turn.done bytes) (take c.in-Ok.count (drop c.loop-turn.done bytes)) inv.wrote wrote in
    record {
      within = let n : c.in-Ok.count ≤ length (drop c.loop-turn.done bytes) = rw piece at c.in-Ok.ensures.bound in omega (arith, inv.within, rw length-drop at n);
      turns = omega (arith, inv.turns, c.in-Ok.ensures.some);
      later = search rules;
      idle = λ none. let some : length bytes ≡ 0 = ap length none in absurd (omega (arith, c.loop-turn-test.true));
      tells = c.in-Ok.ensures.tells ∙ inv.tells;
      wrote = rw take-add more;
    }
