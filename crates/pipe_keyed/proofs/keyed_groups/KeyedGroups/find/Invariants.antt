use Rattle.pipe_chains.proofs.Walks.{left_of, OnChain}
use Rattle.pipe_keyed.proofs.FindFacts.{IsOther}
use Rattle.pipe_keyed.proofs.keyed_groups.KeyedGroups.find.Given as goal

abbrev pub invariant-loop-at : goal.invariant-loop-at
invariant-loop-at g l = OnChain (IsOther l.self-inside.groups.groups (g.S.Sought.code_of l.sought l.self-inside.groups.shape.key_types)) l.mark l.self-inside.chains.leads l.at

abbrev pub decreases-loop-at : goal.decreases-loop-at
decreases-loop-at g l = left_of l.at
