-- One more byte puts the bytes so far in a higher place, and there is room for 16.
use Rattle.std.proofs.Common.{◌∙◌, ◌+◌, ◌*◌, ◌<◌, ℕ, get_or, sym, ap, arith, rules}
use Rattle.std.proofs.lemmas.List.Sums.{fold_more}
use Rattle.pipe_spill.proofs.ByteOrder.{read_below, room}
use Rattle.pipe_waiting.proofs.plain_value.first.Goals as goal

pub overflow_mul-number : goal.overflow_mul-number
overflow_mul-number c = omega (arith, room c.loop-i.i c.loop-i.number c.loop-i.invariant.range (omega arith))

pub overflow_add-number : goal.overflow_add-number
overflow_add-number c =
    let b : get_or c.args.body.now c.loop-i.i 0 < 256 = search rules in
    omega (arith, room c.loop-i.i c.loop-i.number c.loop-i.invariant.range (omega arith), b)

pub loop-i-preserved : goal.loop-i-preserved
loop-i-preserved c =
    let b : get_or c.args.body.now c.loop-i.i 0 < 256 = search rules in
    record {
      number = ap (λ (n : ℕ). n * 256 + get_or c.args.body.now c.loop-i.i 0) c.loop-i.invariant.number
          ∙ sym (fold_more (λ m b. m * 256 + b) 0 c.args.body.now c.loop-i.i 0 (omega arith));
      range = read_below c.args.body.now c.loop-i.number c.loop-i.i c.loop-i.invariant.range b;
    }
