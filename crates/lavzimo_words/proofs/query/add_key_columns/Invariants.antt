use Rattle.lavzimo_words.specs.AskedQuery.{key_expr}
use Rattle.lavzimo_words.specs.Roles.{is_key}
use Rattle.lavzimo_words.proofs.FlatMore.{AreAddedOf}
use Rattle.lavzimo_words.proofs.query.add_key_columns.Given as goal

-- what the columns so far added
abbrev pub invariant-loop-column : goal.invariant-loop-column
invariant-loop-column l = AreAddedOf key_expr (λ c. is_key c.role) l.columns l.column-index l.initial.arena l.arena l.nodes.items
