use Rattle.pipe_inputs.proofs.TypeFacts.{rows-typed, taken}
use Rattle.pipe_inputs.proofs.laws.rows_of_a_query.Goals as goal

pub returns-clause-typed : goal.returns-clause-typed
returns-clause-typed c = λ q chunks sound are. rows-typed q 0 chunks sound are.columns are.typed

pub returns-clause-taken : goal.returns-clause-taken
returns-clause-taken c = λ q r row. taken q.schema q.aggs r.inputs row.inputs.fit
