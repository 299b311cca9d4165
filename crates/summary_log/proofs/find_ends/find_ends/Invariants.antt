use Rattle.std.proofs.Common.{◌≡◌, ◌-◌, ◌≤◌}
use Rattle.std.specs.Prelude.{IfSome}
use Rattle.pipe_spill.specs.FileStore.{next_start}
use Rattle.summary_log.specs.Finding.{HasFound}
use Rattle.summary_log.proofs.find_ends.find_ends.Given as goal

-- the entries up to a place are found
abbrev pub invariant-loop-ends : goal.invariant-loop-ends
invariant-loop-ends g l = record {
  told : g.F.LogFile.told l.file ≡ g.F.LogFile.told l.fn.file;
  inside : l.start ≤ l.size;
  last : next_start l.ends.items ≡ l.start;
  found : IfSome (g.F.LogFile.told l.fn.file) (λ bytes. HasFound bytes l.ends.items l.start);
}

abbrev pub decreases-loop-ends : goal.decreases-loop-ends
decreases-loop-ends g l = l.size - l.start
