use Rattle.std.proofs.Common.{◌≡◌, ◌≤◌, ◌∙◌, length, true, rules, arith}
use Rattle.std.specs.Char.{is_ascii_digit}
use Rattle.std.specs.List.{list_all}
use Rattle.rollup_words.specs.Said.{is_number}
use Rattle.rollup_words.proofs.DigitFacts.{parsed}
use Rattle.rollup_words.proofs.said.position_in.Goals as goal

pub returns : goal.returns
returns c =
    let all : list_all is_ascii_digit c.args.word.now ≡ true = search rules in
    let some : 1 ≤ length c.args.word.now = search (rules, arith) in
    let number : is_number c.args.word.now ≡ true = search (rules, arith) in
    c.ok.ensures.value ∙ parsed c.args.word.now c.parse.result c.parse.ensures.value.0 number all some
