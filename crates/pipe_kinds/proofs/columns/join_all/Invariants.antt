use Rattle.std.proofs.Common.{◌≡◌}
use Rattle.pipe_columns.proofs.FrameFacts.{changed}
use Rattle.pipe_kinds.specs.Stored.{emptied_at, joined_first}
use Rattle.pipe_kinds.proofs.columns.join_all.Given as goal

-- the columns so far are joined
abbrev pub invariant-loop-j : goal.invariant-loop-j
invariant-loop-j l = record {
  columns : l.columns ≡ joined_first l.group l.from l.j l.fn.others l.fn.columns;
  others : l.others ≡ changed (emptied_at l.from) l.j l.fn.others;
}
