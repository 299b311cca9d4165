use Rattle.pipe_query.proofs.ListFacts.{Adding}
use Rattle.pipe_query.proofs.query_json.add_list.Given as goal

abbrev pub invariant-loop-value : goal.invariant-loop-value
invariant-loop-value l = Adding l.list l.value-index l.initial.arena l.arena l.nodes.items
