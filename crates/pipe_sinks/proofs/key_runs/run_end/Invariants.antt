use Rattle.std.proofs.Common.{◌≡◌, ◌-◌, ◌<◌, ◌≤◌, ℕ}
use Rattle.pipe_columns.specs.Frame.{value_at}
use Rattle.pipe_sinks.proofs.key_runs.run_end.Given as goal

-- the rows up to the end so far have one key
abbrev pub invariant-loop-end : goal.invariant-loop-end
invariant-loop-end l = record {
  some : l.row < l.end;
  within : l.end ≤ l.height;
  same : (n : ℕ) → l.row ≤ n → n < l.end → value_at l.keys n ≡ value_at l.keys l.row;
}

abbrev pub decreases-loop-end : goal.decreases-loop-end
decreases-loop-end l = l.height - l.end
