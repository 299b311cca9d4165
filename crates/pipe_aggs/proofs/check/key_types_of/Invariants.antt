use Rattle.std.proofs.Common.{◌≡◌, take, map}
use Rattle.pipe_exprs.specs.Trees.{tree}
use Rattle.pipe_model.specs.Typing.{known_type}
use Rattle.pipe_aggs.proofs.check.key_types_of.Given as goal

-- the types of the keys so far
abbrev pub invariant-loop-key : goal.invariant-loop-key
invariant-loop-key l = l.types.items
    ≡ map (λ n. known_type (tree l.known.exprs n) l.known.fields) (take l.key-index l.query.keys.items)
