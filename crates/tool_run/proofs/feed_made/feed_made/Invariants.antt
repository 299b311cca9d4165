use Rattle.std.proofs.Common.{◌≡◌, ◌≤◌, ◌-◌}
use Rattle.pipe_run.specs.Failing.{NoneFailed}
use Rattle.tool_made.specs.Made.{made_from}
use Rattle.tool_run.proofs.feed_made.feed_made.Given as goal

-- the run was fed the first chunks
abbrev pub invariant-loop-first : goal.invariant-loop-first
invariant-loop-first g l = record {
  setting : l.run.setting ≡ l.fn.run.setting;
  within : l.first ≤ l.total;
  chunks : l.run.chunks ≡ made_from l.fn.rows 0 l.first;
  counted : NoneFailed l.fn.run.stores l.run.stores;
}

abbrev pub decreases-loop-first : goal.decreases-loop-first
decreases-loop-first g l = l.total - l.first
