use Rattle.std.proofs.Common.{◌≡◌, length}
use Rattle.pipe_source.proofs.known_fields.number_places.Given as goal

-- as many are told of
abbrev pub invariant-loop-i : goal.invariant-loop-i
invariant-loop-i l = length l.numbers.items ≡ l.count
