use Rattle.std.proofs.Common.{◌≡◌, ◌++◌, ◌-◌, ◌<◌}
use Rattle.lavzimo_rows.specs.Decimal.{digits_of_millionths, fraction_text}
use Rattle.lavzimo_rows.proofs.decimal.append_fraction.Given as goal

-- what is left has the digits that are still wanted
abbrev pub invariant-loop : goal.invariant-loop
invariant-loop l = record {
  digits : l.text.items ++ digits_of_millionths (6 - l.counter) l.rest ≡ l.fn.text.items ++ fraction_text l.millionths;
  rest : l.rest < 1000000;
}
