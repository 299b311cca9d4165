use Rattle.std.proofs.Common.{◌≡◌, drop}
use Rattle.pipe_inputs.specs.ChunkRows.{row_at}
use Rattle.pipe_kinds.specs.ManyStates.{states_in}
use Rattle.pipe_groups.specs.Texts.{kept_texts}
use Rattle.pipe_groups.proofs.ManyFacts.{FedMany}
use Rattle.pipe_groups.proofs.lent_states.lend_copies.Given as goal

-- the states so far are fed, and the copies of the others' texts are left
abbrev pub invariant-loop-j : goal.invariant-loop-j
invariant-loop-j l = let inputs = (row_at l.rows l.row).inputs in record {
  fed : FedMany l.place inputs l.fn.states l.states l.index l.j;
  copies : l.copies.items ≡ kept_texts l.place l.j inputs (drop l.j (states_in l.states l.index));
}
