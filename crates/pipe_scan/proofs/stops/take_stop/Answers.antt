use Rattle.std.proofs.Common.{arith}
use Rattle.pipe_scan.specs.Stops.{is_stop}
use Rattle.pipe_scan.proofs.MarkFacts.{first-marked, marks-behind-first, none-marked}
use Rattle.pipe_scan.proofs.stops.take_stop.Goals as goal

pub returns-clause-seen : goal.returns-clause-seen
returns-clause-seen c = first-marked is_stop c.args.text.now c.args.stops.now.low c.args.stops.now.cursor c.args.stops.now.stops c.requires.stops (omega arith) (omega arith)

pub returns-then-stops-eq0-clause-none : goal.returns-then-stops-eq0-clause-none
returns-then-stops-eq0-clause-none c = λ m. none-marked is_stop c.args.text.now c.args.stops.now.low c.args.stops.now.cursor c.args.stops.now.stops m.stops c.if-stops-eq0.true

pub returns-clause-marked : goal.returns-clause-marked
returns-clause-marked c =
    let s = first-marked is_stop c.args.text.now c.args.stops.now.low c.args.stops.now.cursor c.args.stops.now.stops c.requires.stops (omega arith) (omega arith) in
    record {
      within = omega (arith, s.1);
      stops = marks-behind-first is_stop c.args.text.now c.args.stops.now.low c.args.stops.now.cursor c.args.stops.now.stops c.requires.stops (omega arith) (omega arith);
      others = c.requires.others;
    }
