use Rattle.std.proofs.Common.{refl}
use lib.Ieee.{round}
use Rattle.std.specs.Float.{float_is_finite}
use Rattle.std.specs.Float.Numeral.{scan_numeral}
use Rattle.json.specs.Json.{items, members, value}
use Rattle.json.specs.Lex.{lex, punctuate}
use Rattle.json.specs.Text.{content}
use Rattle.json.specs.Word.{after_number, word}
use Rattle.serde_json.specs.Read.{number_of}
use Rattle.pipe_query.proofs.worked.worked_slices.Goals as goal

pub returns-clause-none : goal.returns-clause-none
unfolding lex punctuate content word value items members after_number number_of scan_numeral
returns-clause-none c = refl

pub returns-clause-some : goal.returns-clause-some
unfolding lex punctuate content word value items members after_number number_of scan_numeral
returns-clause-some c = refl

pub returns-clause-alone : goal.returns-clause-alone
unfolding lex punctuate content word value items members after_number number_of scan_numeral
returns-clause-alone c = refl

pub returns-clause-negative : goal.returns-clause-negative
unfolding lex punctuate content word value items members after_number number_of scan_numeral
returns-clause-negative c = refl

pub returns-clause-minus_zero : goal.returns-clause-minus_zero
unfolding lex punctuate content word value items members after_number number_of scan_numeral float_is_finite round
returns-clause-minus_zero c = refl
