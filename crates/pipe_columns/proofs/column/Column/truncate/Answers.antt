use Rattle.pipe_columns.proofs.TypeFacts.{values_first}
use Rattle.pipe_columns.proofs.column.Column.truncate.Goals as goal

pub invariant_of-self : goal.invariant_of-self
invariant_of-self c = rw c.truncate.ensures.items (values_first c.self.inside.dtype c.args.len c.self.inside.values.items c.self.invariant)
