use Rattle.std.proofs.Common.{◌∙◌, ◌+◌, length, sym}
use Rattle.test_tables.proofs.tables.two_tables.TwoTables.reserve.Goals as goal

pub invariant_of-self : goal.invariant_of-self
invariant_of-self c =
    let i = c.self.invariant in
    let e = c.cover.ensures in (
      i.0,
      i.1,
      rw e.shape (e.few (i.0 + length c.self.inside.rows.items) i.2),
      rw e.shape i.3,
      rw e.shape i.4,
      i.5 ∙ sym e.shape,
    )
