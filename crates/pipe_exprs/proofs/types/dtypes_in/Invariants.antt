use Rattle.std.proofs.Common.{◌≡◌, take, map}
use Rattle.pipe_exprs.proofs.types.dtypes_in.Given as goal

-- the types of the nodes so far
abbrev pub invariant-loop-known : goal.invariant-loop-known
invariant-loop-known l = l.dtypes.items ≡ map (λ f. f.dtype) (take l.known-index l.facts)
