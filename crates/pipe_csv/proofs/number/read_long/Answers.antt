use Rattle.std.proofs.Common.{◌∙◌, ◌+◌, ap, sym, arith, get_or, drop, option_and_then}
use Rattle.std.proofs.lemmas.List.{at_drop_more}
use Rattle.std.proofs.lemmas.Grind.{common_steps}
use Rattle.pipe_csv.specs.Numbers.{within_magnitude}
use Rattle.pipe_csv.proofs.DigitFacts.{no_room_for_digit, digits_after}
use Rattle.pipe_csv.proofs.number.read_long.Goals as goal
use Rattle.pipe_csv.proofs.number.read_long.Goals.{then-value-gt9-via-then-value-gt9, then-value-gt9-via-else-value-gt9+then-number-gt-TENTH}

pub returns-then-value-gt9 : goal.returns-then-value-gt9
returns-then-value-gt9 c =
    let at = at_drop_more (λ ds. option_and_then within_magnitude (digits_after c.loop-digit.number ds)) c.args.digits.now c.loop-digit.digit-index 0 (omega arith) in
    let whole = ap (option_and_then within_magnitude) c.loop-digit.invariant.rest in
    elim c.then-value-gt9.branch [
      | then-value-gt9-via-then-value-gt9 w ↦ grind (arith, common_steps)
      | then-value-gt9-via-else-value-gt9+then-number-gt-TENTH w ↦ sym (whole ∙ at ∙ no_room_for_digit c.loop-digit.number (get_or c.args.digits.now c.loop-digit.digit-index 0) (drop (c.loop-digit.digit-index + 1) c.args.digits.now) (omega arith))
    ]
