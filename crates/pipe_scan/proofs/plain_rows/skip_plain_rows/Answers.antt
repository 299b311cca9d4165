use Rattle.std.proofs.Common.{◌≡◌, IsTrue, true, arith}
use Rattle.std.specs.List.{list_all}
use Rattle.pipe_scan.proofs.PlainFacts.{rows-join}
use Rattle.pipe_scan.proofs.plain_rows.skip_plain_rows.Goals as goal
use Rattle.pipe_scan.proofs.plain_rows.skip_plain_rows.Goals.{then-at_once, else-at_once}

pub loop-count-preserved : goal.loop-count-preserved
loop-count-preserved c =
    let inv = c.loop-count.invariant in
    let known : IsTrue c.if-at_once.at_once → list_all (λ number. number) c.args.numbers.now ≡ true = elim c.if-at_once.branch [
      | then-at_once w ↦ λ _. inv.known w.if-at_once.true
      | else-at_once w ↦ λ e. inv.known (cc (e, w.at_once-is))
    ] in record {
      marked = c.skip_some-more.ensures.marked;
      known = known;
      rows = rows-join c.args.text.now c.args.numbers.now c.args.stops.now.cursor c.loop-count.here.cursor c.skip_some-more.new.stops.cursor c.loop-count.count c.skip_some-more.result inv.rows c.skip_some-more.ensures.rows;
      few = omega (arith, c.skip_some-more.ensures.few, inv.few, c.loop-count-test.true);
    }
