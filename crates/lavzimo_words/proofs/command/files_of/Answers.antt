use Rattle.std.proofs.Common.{rules}
use Rattle.clap.specs.Words.{found_of}
use Rattle.lavzimo_words.proofs.CommandFacts.{files-lent}
use Rattle.lavzimo_words.proofs.command.files_of.Goals as goal

pub returns-in-Some : goal.returns-in-Some
returns-in-Some c =
    let lent = files-lent (found_of c.args.matches.now) c.get_strs.result c.get_strs.ensures in
    rw (← lent) (grind rules)

pub returns-in-None : goal.returns-in-None
returns-in-None c =
    let lent = files-lent (found_of c.args.matches.now) c.get_strs.result c.get_strs.ensures in
    rw (← lent) (grind rules)
