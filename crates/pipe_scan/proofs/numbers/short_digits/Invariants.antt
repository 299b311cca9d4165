use Rattle.std.proofs.Common.{◌≡◌, ◌<◌, ◌^◌, drop}
use Rattle.pipe_scan.specs.Numbers.{read_digits}
use Rattle.pipe_scan.proofs.NumberFacts.{digits_after}
use Rattle.pipe_scan.proofs.numbers.short_digits.Given as goal

-- the number so far, before what is left
abbrev pub invariant-loop-digit : goal.invariant-loop-digit
invariant-loop-digit l = record {
  bound : l.number < 10 ^ l.digit-index;
  rest : read_digits l.digits ≡ digits_after l.number (drop l.digit-index l.digits);
}
