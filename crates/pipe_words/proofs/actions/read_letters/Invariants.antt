use Rattle.pipe_words.proofs.LetterFacts.{HasRead}
use Rattle.pipe_words.proofs.actions.read_letters.Given as goal

-- the actions so far
abbrev pub invariant-loop-i : goal.invariant-loop-i
invariant-loop-i l = HasRead l.letters l.i l.actions.items
