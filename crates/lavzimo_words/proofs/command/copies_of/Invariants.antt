use Rattle.std.proofs.Common.{◌≡◌, map, take}
use Rattle.lavzimo_words.proofs.command.copies_of.Given as goal

-- the names so far
abbrev pub invariant-loop-name : goal.invariant-loop-name
invariant-loop-name l = l.copies.items ≡ map (λ n. n.now) (take l.name-index l.names)
