use Rattle.std.proofs.Common.{refl}
use Rattle.std.specs.Float.Numeral.{scan_numeral}
use Rattle.json.specs.Json.{items, members, value}
use Rattle.json.specs.Lex.{lex, punctuate}
use Rattle.json.specs.Text.{content}
use Rattle.json.specs.Word.{after_number, word}
use Rattle.serde_json.specs.Read.{number_of}
use Rattle.pipe_query.proofs.worked.worked_queries.Goals as goal

pub returns-clause-whole : goal.returns-clause-whole
unfolding lex punctuate content word value items members after_number number_of scan_numeral
returns-clause-whole c = refl

pub returns-clause-list : goal.returns-clause-list
unfolding lex punctuate content word value items members after_number number_of scan_numeral
returns-clause-list c = refl

pub returns-clause-doubled : goal.returns-clause-doubled
unfolding lex punctuate content word value items members after_number number_of scan_numeral
returns-clause-doubled c = refl

pub returns-clause-unknown : goal.returns-clause-unknown
unfolding lex punctuate content word value items members after_number number_of scan_numeral
returns-clause-unknown c = refl

pub returns-clause-ordered : goal.returns-clause-ordered
unfolding lex punctuate content word value items members after_number number_of scan_numeral
returns-clause-ordered c = refl

pub returns-clause-no_field : goal.returns-clause-no_field
unfolding lex punctuate content word value items members after_number number_of scan_numeral
returns-clause-no_field c = refl

pub returns-clause-wide_field : goal.returns-clause-wide_field
unfolding lex punctuate content word value items members after_number number_of scan_numeral
returns-clause-wide_field c = refl
