use Rattle.std.proofs.Common.{◌≡◌, ◌<◌, ◌+◌, length, arith}
use Rattle.std.proofs.lemmas.List.{length-set}
use Rattle.pipe_scan.proofs.ScanFacts.{scans-part}
use Rattle.pipe_scan.proofs.StopFacts.{reads-stop}
use Rattle.pipe_scan.proofs.scan.scan_parts.Goals as goal

pub loop-i-preserved : goal.loop-i-preserved
loop-i-preserved c =
    let inv = c.loop-i.invariant in
    let e = c.in-Some.ensures in
    let next : c.seen_stop.new.stops.cursor ≡ c.in-Some.stop + 1 = e.cursor in
    let l : c.loop-i.i < length c.loop-i.ends = omega (arith, c.loop-i-test.true, c.saturating_sub-last.ensures, inv.room) in record {
      marked = e.marked;
      least = omega (arith, next, inv.least, e.seen.0.low);
      room = rw length-set inv.room;
      reads = λ at start r. rw next
          (scans-part c.args.text.now at start c.loop-i.ends c.loop-i.i c.in-Some.stop (reads-stop c.args.text.now at start _ c.loop-i.stops.cursor c.in-Some.stop (inv.reads at start r) e.seen.0) l e.seen.1 c.if-text-stop-eq44.true);
    }
