use Rattle.std.proofs.Common.{◌≡◌, ◌≤◌, drop}
use Rattle.pipe_csv.specs.Fields.{read_digits}
use Rattle.pipe_csv.proofs.DigitFacts.{digits_after}
use Rattle.pipe_csv.proofs.number.read_long.Given as goal

-- the number so far, before what is left
abbrev pub invariant-loop-digit : goal.invariant-loop-digit
invariant-loop-digit l = record {
  bound : l.number ≤ 170141183460469231731687303715884105729;
  rest : read_digits l.digits ≡ digits_after l.number (drop l.digit-index l.digits);
}
