use Rattle.std.proofs.Common.{◌≡◌, ◌∙◌, ◌≤◌, ◌+◌, length, ap, arith}
use Rattle.pipe_scan.specs.Stops.{is_stop}
use Rattle.pipe_scan.proofs.StopFacts.{fresh-marked, from-marked, later-none, later-seen}
use Rattle.pipe_scan.proofs.stops.far_stop.Goals as goal

pub take_stop-requires : goal.take_stop-requires
take_stop-requires c = rw c.stops_from.ensures (from-marked c.args.text.now c.loop-stops.stops.cursor (omega (arith, c.loop-stops-test.true, c.loop-stops.invariant.marked.within)))

pub returns-in-Some-clause-stop : goal.returns-in-Some-clause-stop
returns-in-Some-clause-stop c =
    later-seen is_stop c.args.text.now c.args.stops.now.cursor c.loop-stops.stops.cursor c.in-Some.stop c.loop-stops.invariant.low c.loop-stops.invariant.before (rw c.stops_from.ensures at c.in-Some.ensures.seen).0

pub returns-in-Some-clause-cursor : goal.returns-in-Some-clause-cursor
returns-in-Some-clause-cursor c = omega (arith, c.in-Some.ensures.cursor, c.in-Some.ensures.seen.1)

pub loop-stops-preserved : goal.loop-stops-preserved
loop-stops-preserved c =
    let w : c.loop-stops.stops.cursor + 64 ≤ length c.args.text.now = omega (arith, c.loop-stops-test.true, c.loop-stops.invariant.marked.within) in
    let m = from-marked c.args.text.now c.loop-stops.stops.cursor w in
    let n = (rw c.stops_from.ensures at c.in_default.ensures.none) m in
    let e : c.take_stop.new.stops.cursor ≡ c.loop-stops.stops.cursor = ap (λ s. s.cursor) (c.in_default.ensures.as_before ∙ c.stops_from.ensures) in
    rw (c.new.ensures, e) (record {
      marked = fresh-marked c.args.text.now (c.loop-stops.stops.cursor + 64) w;
      low = omega (arith, c.loop-stops.invariant.low);
      before = later-none is_stop c.args.text.now c.args.stops.now.cursor c.loop-stops.stops.cursor (c.loop-stops.stops.cursor + 64) c.loop-stops.invariant.before n;
    })
