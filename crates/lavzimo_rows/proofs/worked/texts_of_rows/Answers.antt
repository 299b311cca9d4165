use Rattle.std.proofs.Common.{refl}
use Rattle.csv.specs.Writing.{fields_text, is_blank}
use Rattle.json.specs.Print.{escape_byte}
use Rattle.std.specs.Fmt.{digits}
use Rattle.lavzimo_rows.specs.Decimal.{digits_of_millionths}
use Rattle.lavzimo_rows.proofs.worked.texts_of_rows.Goals as goal

pub returns-clause-csv : goal.returns-clause-csv
unfolding fields_text is_blank digits digits_of_millionths
returns-clause-csv c = refl

pub returns-clause-json : goal.returns-clause-json
unfolding escape_byte digits digits_of_millionths
returns-clause-json c = refl
