use Rattle.std.proofs.Common.{ap, refl}
use Rattle.std.proofs.lemmas.Result.{on_ok_weaker}
use Rattle.pipe_keyed.specs.Tables.{Table}
use Rattle.pipe_tables.proofs.FoundFacts.{covered-at, covered-same, covered-table}
use Rattle.pipe_tables.proofs.hash_table.AggHashTable.find_lent.Goals as goal

pub invariant_of-self : goal.invariant_of-self
invariant_of-self c = record {
  table = covered-table _ _ _ _ c.find_rows.ensures.covered refl refl refl refl refl c.self.invariant.table;
  parts = tt;
}

pub returns-clause-same : goal.returns-clause-same
returns-clause-same c = covered-same c.args.self.now _ _ _ c.find_rows.ensures.covered (ap (λ (t : Table). t.shape) c.self.view_is)
    (ap (λ (t : Table). t.groups) c.self.view_is) refl refl (ap (λ (t : Table). t.limit) c.self.view_is)

pub returns-clause-at : goal.returns-clause-at
returns-clause-at c = on_ok_weaker c.find_rows.result (λ at. covered-at c.args.self.now _ _ _ c.find_rows.ensures.covered (ap (λ (t : Table). t.shape) c.self.view_is)
    (ap (λ (t : Table). t.groups) c.self.view_is) refl refl (ap (λ (t : Table). t.limit) c.self.view_is) c.args.rows _ _ at) c.find_rows.ensures.at
