use Rattle.std.proofs.Common.{◌<◌, ◌≤◌, length}
use Rattle.pipe_scan.specs.NumberBlock.{AreLines, IsNumberBlock}
use Rattle.pipe_scan.specs.Plain.{ArePlainRows}
use Rattle.pipe_scan.proofs.number_rows.block_rows.Given as goal

-- so many rows were gone over, and the next one begins at the place
abbrev pub invariant-loop-count : goal.invariant-loop-count
invariant-loop-count l = record {
  block : IsNumberBlock l.text l.at l.place l.ends;
  lines : AreLines l.text l.at l.ends l.lines;
  rows : ArePlainRows l.text l.numbers l.at l.place l.count;
  further : 0 < l.count → l.at < l.place;
  within : l.place ≤ length l.text;
}
