use Rattle.std.proofs.Common.{◌≡◌, map}
use Rattle.test_plain.proofs.order.groups_of.Given as goal

-- the groups so far
abbrev pub invariant-loop-place : goal.invariant-loop-place
invariant-loop-place l = l.table.items ≡ map (λ p. p.group) l.yielded
