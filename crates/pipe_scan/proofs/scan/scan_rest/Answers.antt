use Rattle.std.proofs.Common.{inl, inr, ◌⊎◌, ◌≡◌, arith, ◌<◌, length, ℕ, ◌+◌}
use Rattle.std.proofs.lemmas.List.{length-set}
use Rattle.pipe_scan.proofs.ScanFacts.{other_than, reads-copies, scans-end, scans-last, scans-part, scans-wide}
use Rattle.pipe_scan.proofs.StopFacts.{reads-stop}
use Rattle.pipe_scan.proofs.scan.scan_rest.Goals as goal

pub fields-init : goal.fields-init
fields-init c = record {
  few = c.requires.few;
  room = search;
  marked = c.requires.marked;
  low = omega arith;
  reads = λ at r. r;
}

pub returns-then-count-ends-clause-scans : goal.returns-then-count-ends-clause-scans
returns-then-count-ends-clause-scans c = λ at l k r. scans-wide c.args.text.now at c.args.start c.fields.ends c.fields.count c.fields.stops.cursor (c.fields.invariant.reads at r) c.if-count-ends.true

pub returns-then-count-ends-2-clause-scans : goal.returns-then-count-ends-2-clause-scans
returns-then-count-ends-2-clause-scans c = λ at l k r. scans-wide c.args.text.now at c.args.start c.fields.ends c.fields.count c.fields.stops.cursor (c.fields.invariant.reads at r) c.if-count-ends-2.true

-- the byte is a CR or a LF
a_line_ends : (c : ℕ) → (c ≡ 10) ⊎ ((c ≡ 10 → ⊥) × (c ≡ 13)) → (c ≡ 13) ⊎ (c ≡ 10)
a_line_ends c (inl e) = inr e
a_line_ends c (inr e) = inl e.1

pub returns-then-byte-eq13-clause-scans : goal.returns-then-byte-eq13-clause-scans
returns-then-byte-eq13-clause-scans c = λ at o k r.
    let l : c.fields.count < length c.fields.ends = omega (arith, c.fields.invariant.few, c.if-count-ends-2.false) in
    let h : c.next_stop-stop.result < length c.args.text.now = omega (arith, c.next_stop-stop.ensures.stop.high, c.if-stop-text.false) in
    let s = reads-stop c.args.text.now at c.args.start _ c.fields.stops.cursor c.next_stop-stop.result (c.fields.invariant.reads at r) c.next_stop-stop.ensures.stop in
    let e = scans-end c.args.text.now at c.args.start c.fields.ends c.fields.count c.next_stop-stop.result s l h (a_line_ends _ c.if-byte-eq13.either) in
    record {
      takes = (e.records, omega (arith, o, c.fields.invariant.low, c.next_stop-stop.ensures.stop.low), omega (arith, h));
      order = e.order;
      few = rw length-set (omega arith);
    }

pub returns-then-byte-eq34-clause-scans : goal.returns-then-byte-eq34-clause-scans
returns-then-byte-eq34-clause-scans c = λ at o k r. (omega (arith, o, c.fields.invariant.low, c.next_stop-stop.ensures.stop.low), omega (arith, c.next_stop-stop.ensures.stop.high, c.if-stop-text.false), c.if-byte-eq34.true)

pub fields-preserved-then-byte-eq44 : goal.fields-preserved-then-byte-eq44
fields-preserved-then-byte-eq44 c =
    let h : c.next_stop-stop.result < length c.args.text.now = omega (arith, c.next_stop-stop.ensures.stop.high, c.if-stop-text.false) in
    let m : c.next_stop-stop.new.stops.cursor ≡ c.next_stop-stop.result + 1 = omega (arith, c.next_stop-stop.ensures.cursor, h) in
    let l : c.fields.count < length c.fields.ends = omega (arith, c.fields.invariant.few, c.if-count-ends.false) in record {
      few = rw length-set (omega arith);
      room = rw length-set c.fields.invariant.room;
      marked = c.next_stop-stop.ensures.marked;
      low = omega (arith, m, c.fields.invariant.low, c.next_stop-stop.ensures.stop.low);
      reads = λ at r.
          let s = reads-stop c.args.text.now at c.args.start _ c.fields.stops.cursor c.next_stop-stop.result (c.fields.invariant.reads at r) c.next_stop-stop.ensures.stop in
          rw m (scans-part c.args.text.now at c.args.start c.fields.ends c.fields.count c.next_stop-stop.result s l h c.if-byte-eq44.true);
    }

pub fields-preserved : goal.fields-preserved
fields-preserved c =
    let h : c.next_stop-stop.result < length c.args.text.now = omega (arith, c.next_stop-stop.ensures.stop.high, c.if-stop-text.false) in
    let m : c.next_stop-stop.new.stops.cursor ≡ c.next_stop-stop.result + 1 = omega (arith, c.next_stop-stop.ensures.cursor, h) in
    record {
      few = c.fields.invariant.few;
      room = c.fields.invariant.room;
      marked = c.next_stop-stop.ensures.marked;
      low = omega (arith, m, c.fields.invariant.low, c.next_stop-stop.ensures.stop.low);
      reads = λ at r.
          let s = reads-stop c.args.text.now at c.args.start _ c.fields.stops.cursor c.next_stop-stop.result (c.fields.invariant.reads at r) c.next_stop-stop.ensures.stop in
          rw m (reads-copies c.args.text.now at c.args.start _ c.next_stop-stop.result s h (other_than _ c.if-byte-eq44.false c.if-byte-eq34.false c.if-byte-eq13.false.1 c.if-byte-eq13.false.0));
    }

pub returns-then-count-ends-3-clause-scans : goal.returns-then-count-ends-3-clause-scans
returns-then-count-ends-3-clause-scans c = λ at l k r. scans-wide c.args.text.now at c.args.start c.fields.ends c.fields.count c.fields.stops.cursor (c.fields.invariant.reads at r) c.if-count-ends-3.true

pub returns-clause-scans : goal.returns-clause-scans
returns-clause-scans c = λ at o k r.
    let l : c.fields.count < length c.fields.ends = omega (arith, c.fields.invariant.few, c.if-count-ends-3.false) in
    let s = reads-stop c.args.text.now at c.args.start _ c.fields.stops.cursor c.next_stop-stop.result (c.fields.invariant.reads at r) c.next_stop-stop.ensures.stop in
    let e = scans-last c.args.text.now at c.args.start c.fields.ends c.fields.count (rw c.if-stop-text.true at s) l in record {
      takes = (e.records, k, omega arith);
      order = e.order;
      few = rw length-set (omega arith);
    }
