use Rattle.std.proofs.Common.{◌≡◌, All, take}
use Rattle.pipe_states.specs.Fair.{IsFair}
use Rattle.pipe_states.specs.Together.{total_rows}
use Rattle.pipe_regroup.specs.Regrouping.{held_count}
use Rattle.pipe_regroup.proofs.total.total.Given as goal

-- the rows of the states so far, which are fair
abbrev pub invariant-loop-file : goal.invariant-loop-file
invariant-loop-file l = record {
  rows : l.rows ≡ held_count (total_rows (take l.file-index l.files));
  fair : All IsFair (take l.file-index l.files);
}
