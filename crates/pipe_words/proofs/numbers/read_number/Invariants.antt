use Rattle.std.proofs.Common.{◌≡◌, ◌<◌, ◌≤◌, ◌^◌, length, drop}
use Rattle.pipe_words.specs.Numbers.{read_word_number}
use Rattle.pipe_words.proofs.DigitFacts.{digits_after}
use Rattle.pipe_words.proofs.numbers.read_number.Given as goal

-- the number so far, before what is left
abbrev pub invariant-loop-digit : goal.invariant-loop-digit
invariant-loop-digit l = record {
  few : length l.text ≤ 20;
  bound : l.number < 10 ^ l.digit-index;
  rest : read_word_number l.text ≡ digits_after l.number (drop l.digit-index l.text);
}
