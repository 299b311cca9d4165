use Rattle.std.proofs.Common.{arith}
use Rattle.test_tables.proofs.tables.two_tables.TwoTables.into_tables.Goals as goal

pub returns-clause-few : goal.returns-clause-few
returns-clause-few c =
    let i = c.self.invariant in
    let own = i.2 in
    let others = i.3 in
    record {
      rows = own.rows;
      others = others.rows;
      holds = own.holds;
      other_holds = others.holds;
      typed = own.typed;
      others_typed = others.typed;
      few = omega (arith, own.few, others.few, i.1);
    }
