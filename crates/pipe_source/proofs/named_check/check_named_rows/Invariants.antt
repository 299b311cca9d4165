use Rattle.std.proofs.Common.{◌≡◌, ◌≤◌, ◌-◌, length}
use Rattle.pipe_scan.specs.Stops.{AreMarked}
use Rattle.pipe_source.specs.Starts.{AreNoted}
use Rattle.pipe_source.proofs.LaidFacts.{CheckedLaid}
use Rattle.pipe_source.proofs.named_check.check_named_rows.Given as goal

-- the first rows read, the rest of the records stand behind them, and the starts of chunks are noted
abbrev pub invariant-loop-row : goal.invariant-loop-row
invariant-loop-row l = record {
  checked : CheckedLaid l.layout l.file l.columns l.text l.at l.most l.row l.stops.cursor;
  few : l.row ≤ l.most;
  marked : AreMarked l.text l.stops;
  room : length l.ends.items ≡ l.layout.count;
  size : l.starts.size ≡ l.size;
  noted : AreNoted l.text l.at l.row l.starts;
}

abbrev pub decreases-loop-row : goal.decreases-loop-row
decreases-loop-row l = l.most - l.row
