use Rattle.std.proofs.Common.{arith}
use Rattle.std.proofs.lemmas.Grind.{common_steps}
use Rattle.clap.specs.Words.{found_of}
use Rattle.pipe_words.proofs.CommandFacts.{words-lent}
use Rattle.pipe_words.proofs.command.words_of.Goals as goal

pub returns-in_default : goal.returns-in_default
returns-in_default c =
    let lent = words-lent (found_of c.args.matches.now) c.get_strs.result c.get_strs.ensures in
    grind (arith, common_steps)

pub returns : goal.returns
returns c =
    let lent = words-lent (found_of c.args.matches.now) c.get_strs.result c.get_strs.ensures in
    grind (arith, common_steps)
