use Rattle.std.proofs.Common.{◌≡◌, map, take}
use Rattle.pipe_exprs.specs.Evaluated.{items_of, row_values}
use Rattle.pipe_exprs.specs.Trees.{tree}
use Rattle.pipe_inputs.proofs.value_lists.key_lists.Given as goal

-- the values of the keys so far
abbrev pub invariant-loop-key : goal.invariant-loop-key
invariant-loop-key l = map items_of l.lists.items
    ≡ map (λ n. row_values (tree l.query.arena n) l.chunk.frame) (take l.key-index l.query.keys.items)
