use Rattle.std.proofs.Common.{◌≡◌, ◌++◌, take, drop}
use Rattle.std.specs.List.{flat_map}
use Rattle.pipe_running.specs.States.{given, output_values}
use Rattle.test_plain.proofs.frame.output_row.Given as goal

-- what the states so far give, and the others as they were
abbrev pub invariant-loop-j : goal.invariant-loop-j
invariant-loop-j l = record {
  left : drop l.j l.states.items ≡ drop l.j l.initial.states.items;
  row : l.row.items ≡ l.initial.row.items ++ flat_map (λ s. output_values (given s)) (take l.j l.initial.states.items);
}
