use Rattle.std.proofs.Common.{◌≡◌, map, take}
use Rattle.pipe_exprs.specs.Evaluated.{items_of}
use Rattle.pipe_aggs.specs.HashAggs.{input_of}
use Rattle.pipe_inputs.specs.Cells.{input_values}
use Rattle.pipe_inputs.proofs.value_lists.input_lists.Given as goal

-- the values of the inputs so far
abbrev pub invariant-loop-input : goal.invariant-loop-input
invariant-loop-input l = map items_of l.lists.items
    ≡ map (λ i. input_values (input_of l.query.arena i) l.chunk.frame) (take l.input-index l.inputs)
