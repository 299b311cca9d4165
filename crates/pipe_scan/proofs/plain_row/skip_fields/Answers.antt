use Rattle.std.proofs.Common.{◌≡◌, ◌<◌, ◌+◌, ◌-◌, length, arith, sym}
use Rattle.pipe_scan.proofs.ScanFacts.{reads-starts}
use Rattle.pipe_scan.proofs.PlainFacts.{goes-end, goes-more, goes-start}
use Rattle.pipe_scan.proofs.plain_row.skip_fields.Goals as goal

pub loop-i-init : goal.loop-i-init
loop-i-init c =
    let l : c.skip_ends.new.stops.cursor < length c.args.text.now = omega (arith, c.if-stops-text.false, c.skip_ends.ensures.marked.within) in record {
      marked = c.skip_ends.ensures.marked;
      low = c.skip_ends.ensures.least;
      goes = goes-start c.args.text.now c.args.stops.now.cursor c.skip_ends.new.stops.cursor c.args.numbers.now (reads-starts c.args.text.now c.args.stops.now.cursor c.skip_ends.new.stops.cursor c.skip_ends.ensures.skipped l (c.skip_ends.ensures.first l));
    }

pub loop-i-preserved : goal.loop-i-preserved
loop-i-preserved c =
    let inv = c.loop-i.invariant in
    let e = c.in_ok-field_end.ensures in
    let h : c.loop-i.i < length c.args.numbers.now = omega (arith, c.loop-i-test.true) in record {
      marked = e.marked;
      low = omega (arith, inv.low, e.field.order, e.cursor);
      goes = rw e.cursor (goes-more c.args.text.now c.args.stops.now.cursor c.skip_ends.new.stops.cursor c.loop-i.stops.cursor c.args.numbers.now c.loop-i.i c.in_ok-field_end.field-0 inv.goes h e.field e.known);
    }

pub returns-clause-row : goal.returns-clause-row
returns-clause-row c =
    let inv = c.loop-i.invariant in
    let e = c.in_ok-field_end-2.ensures in
    let last : c.loop-i.i + 1 ≡ length c.args.numbers.now = omega (arith, c.loop-i-test.false, c.requires.some, c.loop-i.auto.i-end) in
    let is : c.loop-i.i ≡ length c.args.numbers.now - 1 = omega (arith, last) in
    rw e.cursor (goes-end c.args.text.now c.args.stops.now.cursor c.skip_ends.new.stops.cursor c.loop-i.stops.cursor c.args.numbers.now c.loop-i.i c.in_ok-field_end-2.field-0 inv.goes inv.low last e.field (rw (sym is) at e.known))
