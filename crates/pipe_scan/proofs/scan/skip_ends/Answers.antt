use Rattle.std.proofs.Common.{inl, inr, ◌⊎◌, ◌≡◌, ◌≢◌, ◌∙◌, ◌<◌, ◌+◌, ℕ, get_or, length, true, refl, ap, arith}
use Rattle.pipe_scan.specs.Lines.{ends_line}
use Rattle.pipe_scan.specs.Stops.{is_stop}
use Rattle.pipe_scan.proofs.ScanFacts.{skips_at}
use Rattle.pipe_scan.proofs.StopFacts.{fresh-marked, stop-here}
use Rattle.pipe_scan.proofs.scan.skip_ends.Goals as goal

-- a byte that ends a line is a stop
line_stop : (c : ℕ) → ((c ≢ 13) × (c ≡ 10)) ⊎ (c ≡ 13) → (ends_line c ≡ true) × (is_stop c ≡ true)
line_stop c (inl e) = rw e.1 (refl, refl)
line_stop c (inr e) = rw e (refl, refl)

pub loop-stops-preserved-in-Some-1 : goal.loop-stops-preserved-in-Some-1
loop-stops-preserved-in-Some-1 c =
    let at : ℕ = c.loop-stops.stops.cursor in
    let s = line_stop (get_or c.args.text.now at 0) c.else-byte-ne13.either in
    let here = stop-here c.args.text.now at c.in-Some._end s.1 c.in-Some.ensures.seen.0 in
    let next : c.take_stop.new.stops.cursor ≡ at + 1 = omega (arith, c.in-Some.ensures.cursor, here) in record {
      marked = c.take_stop.ensures.marked;
      least = omega (arith, next, c.loop-stops.invariant.least);
      skipped = rw next (c.loop-stops.invariant.skipped ∙ skips_at c.args.text.now at c.loop-stops-test.true s.0);
    }

pub loop-stops-preserved : goal.loop-stops-preserved
loop-stops-preserved c =
    let at : ℕ = c.loop-stops.stops.cursor in
    let s = line_stop (get_or c.args.text.now at 0) c.else-byte-ne13.either in
    let here : c.take_stop.new.stops.cursor ≡ at = ap (λ t. t.cursor) c.in-None.ensures.as_before in
    let l : at < length c.args.text.now = c.loop-stops-test.true in
    rw (c.new.ensures, here) (record {
      marked = fresh-marked c.args.text.now (at + 1) (omega (arith, l));
      least = omega (arith, c.loop-stops.invariant.least);
      skipped = c.loop-stops.invariant.skipped ∙ skips_at c.args.text.now at l s.0;
    })
