use Rattle.std.proofs.Common.{◌≡◌, ◌++◌, drop}
use Rattle.narrow_columns.specs.Wanted.{chosen}
use Rattle.narrow_columns.proofs.wanted.chosen_schema.Given as goal

-- the wanted fields so far, before those of the rest
abbrev pub invariant-loop-i : goal.invariant-loop-i
invariant-loop-i l = chosen l.wanted l.fields ≡ l.kept.items ++ chosen (drop l.i l.wanted) (drop l.i l.fields)
