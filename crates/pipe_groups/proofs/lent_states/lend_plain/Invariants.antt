use Rattle.pipe_inputs.specs.ChunkRows.{row_at}
use Rattle.pipe_groups.proofs.ManyFacts.{FedMany}
use Rattle.pipe_groups.proofs.lent_states.lend_plain.Given as goal

-- the states so far are fed
abbrev pub invariant-loop-j : goal.invariant-loop-j
invariant-loop-j l = FedMany l.place (row_at l.rows l.row).inputs l.fn.states l.states l.index l.j
