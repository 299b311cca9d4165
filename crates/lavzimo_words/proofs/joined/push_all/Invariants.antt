use Rattle.std.proofs.Common.{◌≡◌, ◌++◌, take}
use Rattle.lavzimo_words.proofs.joined.push_all.Given as goal

-- the words so far, behind those from before
abbrev pub invariant-loop-word : goal.invariant-loop-word
invariant-loop-word l = l.joined.items ≡ l.initial.joined.items ++ take l.word-index l.words
