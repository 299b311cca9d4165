use Rattle.pipe_columns.specs.Key.{code}
use Rattle.pipe_states.specs.Regrouped.{kept}
use Rattle.pipe_regroup.proofs.ListFacts.{IsWrittenTo}
use Rattle.pipe_regroup.proofs.row_groups.encode_kept.Given as goal

-- what is written, with the codes of the values left, is the code
abbrev pub invariant-loop-j : goal.invariant-loop-j
invariant-loop-j l = record { written : IsWrittenTo l.types l.keep l.key l.code.items (code l.types (kept l.keep l.key)) l.j }
