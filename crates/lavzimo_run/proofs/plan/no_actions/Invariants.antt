use Rattle.std.proofs.Common.{◌≡◌, [], length, map}
use Rattle.std.specs.Prelude.{replicate}
use Rattle.lavzimo_run.proofs.plan.no_actions.Given as goal

-- as many lists as workers so far
abbrev pub invariant-loop : goal.invariant-loop
invariant-loop l = record {
  lists : map (λ v. v.items) l.actions.items ≡ replicate l.counter [];
  count : length l.actions.items ≡ l.counter;
}
