use Rattle.pipe_query.proofs.FieldFacts.{HaveFields}
use Rattle.pipe_query.proofs.query_json.fields.Given as goal

-- the fields so far before those of the rest are those of the list
abbrev pub invariant-loop-value : goal.invariant-loop-value
invariant-loop-value l = HaveFields l.list l.value-index l.fields.items
