use Rattle.std.proofs.Common.{◌∙◌, ◌<◌, ℕ, length, refl, arith}
use Rattle.std.proofs.lemmas.List.{length-set}
use Rattle.pipe_scan.proofs.ScanFacts.{reads-starts, records_none, scans-end}
use Rattle.pipe_scan.proofs.PlainFacts.{turned}
use Rattle.pipe_scan.proofs.StopFacts.{reads-stop}
use Rattle.pipe_scan.proofs.scan.scan_next.Goals as goal

pub returns-then-start-text-clause-scans : goal.returns-then-start-text-clause-scans
returns-then-start-text-clause-scans c = records_none c.args.text.now c.args.stops.now.cursor (c.skip_ends.ensures.skipped ∙ rw c.if-start-text.true refl)

pub returns-in-Some-clause-scans : goal.returns-in-Some-clause-scans
returns-in-Some-clause-scans c =
    let text = c.args.text.now in
    let at : ℕ = c.args.stops.now.cursor in
    let start : ℕ = c.skip_ends.new.stops.cursor in
    let s : start < length text = omega (arith, c.if-start-text.false, c.skip_ends.ensures.marked.within) in
    let p = c.scan_parts-count.ensures in
    let r = p.reads at start (reads-starts text at start c.skip_ends.ensures.skipped s (c.skip_ends.ensures.first s)) in
    let k = c.in-Some.ensures in
    let l : c.scan_parts-count.result < length c.scan_parts-count.new.ends = grind (arith, k.last) in
    let e = scans-end text at start c.scan_parts-count.new.ends c.scan_parts-count.result c.in-Some.stop (reads-stop text at start _ _ c.in-Some.stop r k.seen.0) l k.seen.1 (turned _ k.line) in record {
      takes = (e.records, omega (arith, c.skip_ends.ensures.least, p.least, k.seen.0.low), omega (arith, k.seen.1));
      order = e.order;
      few = rw length-set (omega (arith, l));
    }

pub returns-in-None-clause-scans : goal.returns-in-None-clause-scans
returns-in-None-clause-scans c =
    let text = c.args.text.now in
    let at : ℕ = c.args.stops.now.cursor in
    let start : ℕ = c.skip_ends.new.stops.cursor in
    let s : start < length text = omega (arith, c.if-start-text.false, c.skip_ends.ensures.marked.within) in
    let p = c.scan_parts-count.ensures in
    let r = p.reads at start (reads-starts text at start c.skip_ends.ensures.skipped s (c.skip_ends.ensures.first s)) in
    let b = c.in-None.ensures.as_before in
    c.scan_rest-scan.ensures.scans at (rw b (omega (arith, c.skip_ends.ensures.least, p.least))) (omega (arith, c.skip_ends.ensures.least, s)) (rw b r)
