use Rattle.std.proofs.Common.{refl}
use Rattle.std.specs.Fmt.{digits}
use Rattle.lavzimo_rows.specs.Decimal.{digits_of_millionths}
use Rattle.lavzimo_rows.proofs.worked.decimals.Goals as goal

pub returns : goal.returns
unfolding digits digits_of_millionths
returns c = record {
  half = refl;
  whole = refl;
  below_one = refl;
  least = refl;
  zeros = refl;
  nothing = refl;
}
