use Rattle.std.proofs.Common.{◌≡◌}
use Rattle.std.specs.List.{range_with_len}
use Rattle.narrow_columns.specs.Wanted.{chosen}
use Rattle.pipe_source.proofs.wanted_places.wanted_places.Given as goal

-- the wanted among the first places are in the list
abbrev pub invariant-loop-i : goal.invariant-loop-i
invariant-loop-i l = l.places.items ≡ chosen l.wanted (range_with_len 0 l.i)
