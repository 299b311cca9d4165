use Rattle.std.proofs.Common.{arith, ◌≡◌, ◌∷◌, ◌+◌, ◌∙◌, List, get_or, drop, refl, sym}
use Rattle.std.proofs.lemmas.List.{drop_all, drop_more, drop-map, length-map}
use Rattle.pipe_columns.specs.declared.any_value.AnyValue.{AnyValue}
use Rattle.pipe_columns.specs.declared.any_value.AnyValue.TheVariants.{Null}
use Rattle.pipe_columns.specs.Frame.{value_at}
use Rattle.pipe_exprs.specs.Evaluated.{items_of}
use Rattle.pipe_inputs.specs.Cells.{cells}
use Rattle.pipe_inputs.proofs.cells.compare_cells.Goals as goal

pub returns-then-i-other : goal.returns-then-i-other
returns-then-i-other c =
    let i = c.loop-i.i in
    let own : List AnyValue = cells c.args.lists.now c.args.row in
    let size = length-map c.args.lists.now (λ values. value_at (items_of values) c.args.row) in
    let left : cells (drop i c.args.lists.now) c.args.row ≡ get_or own i Null ∷ drop (i + 1) own =
    sym (drop-map (λ values. value_at (items_of values) c.args.row) i c.args.lists.now) ∙ drop_more own i Null (omega (arith, size)) in
    let other = drop_all i c.args.other.now (omega arith) in
    sym (c.loop-i.invariant ∙ rw (left, other) refl)

pub returns-then-lists-other : goal.returns-then-lists-other
returns-then-lists-other c =
    let own = drop_all c.loop-i.i c.args.lists.now (omega arith) in
    let other = drop_more c.args.other.now c.loop-i.i Null (omega arith) in
    sym (c.loop-i.invariant ∙ rw (own, other) refl)
