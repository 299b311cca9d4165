use Rattle.std.proofs.Common.{◌∙◌, length}
use Rattle.pipe_scan.proofs.SkipFacts.{skips_more}
use Rattle.pipe_scan.proofs.skip.skip_rows.Goals as goal

pub loop-count-preserved : goal.loop-count-preserved
loop-count-preserved c = record {
  marked = c.in_ok-step_over.ensures.marked;
  room = c.in_ok-step_over.ensures.room ∙ c.loop-count.invariant.room;
  skips = skips_more c.args.text.now c.args.stops.now.cursor c.loop-count.stops.cursor c.step_over.new.stops.cursor (length c.args.ends.now) c.loop-count.count c.loop-count.invariant.skips
      (rw (c.in-Over.is, c.loop-count.invariant.room) at c.in_ok-step_over.ensures.step);
}
