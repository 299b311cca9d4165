use Rattle.std.proofs.Common.{◌≡◌, map, take}
use Rattle.pipe_words.proofs.command.words_of.Given as goal

-- copies of the words so far
abbrev pub invariant-loop-word : goal.invariant-loop-word
invariant-loop-word l = l.copies.items ≡ map (λ w. w.now) (take l.word-index l.words)
