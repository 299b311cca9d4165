use Rattle.std.proofs.Common.{rules, arith, List, ℕ}
use Rattle.std.proofs.lemmas.List.{places, with_items_is}
use Rattle.pipe_io.specs.declared.whole_file.TheConstants.{MOST_FILE_BYTES}
use Rattle.pipe_io.proofs.ReadOn.{read_behind_front, read_larger}
use Rattle.pipe_io.proofs.whole_file.read_begun.Goals as goal

pub returns-then-filled-gt-MOST_FILE_BYTES-clause-large : goal.returns-then-filled-gt-MOST_FILE_BYTES-clause-large
returns-then-filled-gt-MOST_FILE_BYTES-clause-large g c = λ _.
    let at = c.loop-turn in
    read_larger (g.I.InputFiles.told c.args.input.now) c.args.name.now (g.I.InputFiles.left at.input) at.filled MOST_FILE_BYTES at.bytes.items at.invariant.within at.invariant.read c.if-filled-gt-MOST_FILE_BYTES.true

pub returns-clause-large : goal.returns-clause-large
returns-clause-large g c = λ _.
    let at = c.loop-turn in
    read_larger (g.I.InputFiles.told c.args.input.now) c.args.name.now (g.I.InputFiles.left at.input) at.filled MOST_FILE_BYTES at.bytes.items at.invariant.within at.invariant.read (omega (arith, at.invariant.turns, c.loop-turn-test.false))

pub loop-turn-preserved : goal.loop-turn-preserved
loop-turn-preserved g c =
    let input = g.I.InputFiles in
    let inv = c.loop-turn.invariant in
    let told = input.told c.args.input.now in
    let before = input.left c.loop-turn.input in
    let after = input.left c.read_behind.new.input in
    let filled : ℕ = c.loop-turn.filled in
    let now : List ℕ = c.read_behind.new.bytes in
    let read = read_behind_front told c.args.name.now before after c.loop-turn.bytes.items c.make_room.new.bytes.items c.as_mut_slice.result.now now filled c.in-Ok.count inv.read c.make_room.ensures.front c.as_mut_slice.ensures.value c.read_behind.ensures.front c.in-Ok.ensures.bytes in
    let is = with_items_is c.make_room.new.bytes now (search (rules, places)) in
    record {
      told = search rules;
      started = search rules;
      tried = search rules;
      later = search rules;
      within = rw is c.in-Ok.ensures.fits;
      read = rw is read;
      turns = omega (arith, inv.turns, c.in-Ok.count-test);
    }
