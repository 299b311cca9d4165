use Rattle.std.proofs.Common.{◌≡◌, take}
use Rattle.pipe_regroup.specs.Rules.{all_rules}
use Rattle.pipe_regroup.proofs.rule.rules_of.Given as goal

-- the rules of the aggregates so far
abbrev pub invariant-loop-function : goal.invariant-loop-function
invariant-loop-function l = l.rules.items ≡ all_rules (take l.function-index l.functions)
