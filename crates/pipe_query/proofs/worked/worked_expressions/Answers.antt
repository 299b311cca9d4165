use Rattle.std.proofs.Common.{refl}
use lib.Ieee.{round}
use Rattle.std.specs.Float.{float_is_finite}
use Rattle.std.specs.Float.Numeral.{scan_numeral}
use Rattle.json.specs.Json.{items, members, value}
use Rattle.json.specs.Lex.{lex, punctuate}
use Rattle.json.specs.Text.{content}
use Rattle.json.specs.Word.{after_number, word}
use Rattle.serde_json.specs.Read.{number_of}
use Rattle.pipe_query.proofs.worked.worked_expressions.Goals as goal

pub returns-clause-name : goal.returns-clause-name
unfolding lex punctuate content word value items members after_number number_of scan_numeral
returns-clause-name c = refl

pub returns-clause-column : goal.returns-clause-column
unfolding lex punctuate content word value items members after_number number_of scan_numeral
returns-clause-column c = refl

pub returns-clause-binary : goal.returns-clause-binary
unfolding lex punctuate content word value items members after_number number_of scan_numeral
returns-clause-binary c = refl

pub returns-clause-literal : goal.returns-clause-literal
unfolding lex punctuate content word value items members after_number number_of scan_numeral
returns-clause-literal c = refl

pub returns-clause-fraction : goal.returns-clause-fraction
unfolding lex punctuate content word value items members after_number number_of scan_numeral float_is_finite round
returns-clause-fraction c = refl

pub returns-clause-alias : goal.returns-clause-alias
unfolding lex punctuate content word value items members after_number number_of scan_numeral
returns-clause-alias c = refl

pub returns-clause-count : goal.returns-clause-count
unfolding lex punctuate content word value items members after_number number_of scan_numeral
returns-clause-count c = refl

pub returns-clause-two_members : goal.returns-clause-two_members
unfolding lex punctuate content word value items members after_number number_of scan_numeral
returns-clause-two_members c = refl
