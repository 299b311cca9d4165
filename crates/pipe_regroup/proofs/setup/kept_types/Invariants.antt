use Rattle.std.proofs.Common.{◌≡◌, map, take}
use Rattle.pipe_aggs.specs.QueryTrees.{query_tree}
use Rattle.pipe_model.specs.Typing.{known_type}
use Rattle.pipe_regroup.proofs.KeptFacts.{picked}
use Rattle.pipe_regroup.proofs.setup.kept_types.Given as goal

-- the types of the keys so far
abbrev pub invariant-loop-i : goal.invariant-loop-i
invariant-loop-i l = let q = query_tree l.query in l.types.items ≡ map (λ e. known_type e q.schema) (picked q.keys (take l.i l.keep))
