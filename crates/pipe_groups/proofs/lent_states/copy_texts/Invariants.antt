use Rattle.std.proofs.Common.{◌≡◌, ◌≤◌, length, drop}
use Rattle.pipe_inputs.specs.ChunkRows.{row_at}
use Rattle.pipe_kinds.specs.ManyStates.{states_in}
use Rattle.pipe_groups.specs.Texts.{kept_texts}
use Rattle.pipe_groups.proofs.lent_states.copy_texts.Given as goal

abbrev pub decreases-loop-j : goal.decreases-loop-j
decreases-loop-j l = l.j

-- those from a position on are copied
abbrev pub invariant-loop-j : goal.invariant-loop-j
invariant-loop-j l = record {
  within : l.j ≤ length (states_in l.states l.index);
  copies : l.copies.items ≡ kept_texts l.place l.j (row_at l.rows l.row).inputs (drop l.j (states_in l.states l.index));
}
