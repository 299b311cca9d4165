use Rattle.std.proofs.Common.{rules, ◌≡◌, ◌∙◌, ap, drop, length, min, take}
use Rattle.pipe_columns.proofs.FrameFacts.{drop_min}
use Rattle.pipe_columns.proofs.TypeFacts.{values_slice}
use Rattle.pipe_columns.proofs.column.Column.slice.Goals as goal

pub invariant_of-self : goal.invariant_of-self
invariant_of-self c =
    let values = c.self.inside.values.items in
    let left : c.truncate.new.self.items ≡ take c.args.len (drop (min c.args.offset (length values)) values) = search rules in
    let same : c.truncate.new.self.items ≡ take c.args.len (drop c.args.offset values) = left ∙ ap (take c.args.len) (drop_min c.args.offset values) in
    rw same (values_slice c.self.inside.dtype c.args.offset c.args.len values c.self.invariant)
