use Rattle.std.proofs.Common.{◌≤◌, List, length, arith, subst, take_all}
use Rattle.pipe_kinds.specs.Columns.{ColumnStates}
use Rattle.pipe_kinds.specs.Stored.{HaveRoom}
use Rattle.pipe_kinds.proofs.StoredFacts.{reserved-one, room-more}
use Rattle.pipe_kinds.proofs.columns.reserve_all.Goals as goal

pub returns-in_err-reserve-clause-states : goal.returns-in_err-reserve-clause-states
returns-in_err-reserve-clause-states c =
    (reserved-one c.args.columns.now c.loop-j.columns c.loop-j.j c.index-columns-j.result c.reserve.new.self c.loop-j.invariant.reserved (omega (arith, c.loop-j-test.true))
    c.in_err-reserve.ensures.states c.in_err-reserve.ensures.fresh c.in_err-reserve.ensures.room).states

pub returns-in_err-reserve-clause-fresh : goal.returns-in_err-reserve-clause-fresh
returns-in_err-reserve-clause-fresh c =
    (reserved-one c.args.columns.now c.loop-j.columns c.loop-j.j c.index-columns-j.result c.reserve.new.self c.loop-j.invariant.reserved (omega (arith, c.loop-j-test.true))
    c.in_err-reserve.ensures.states c.in_err-reserve.ensures.fresh c.in_err-reserve.ensures.room).fresh

pub returns-in_err-reserve-clause-keeps : goal.returns-in_err-reserve-clause-keeps
returns-in_err-reserve-clause-keeps c =
    (reserved-one c.args.columns.now c.loop-j.columns c.loop-j.j c.index-columns-j.result c.reserve.new.self c.loop-j.invariant.reserved (omega (arith, c.loop-j-test.true))
    c.in_err-reserve.ensures.states c.in_err-reserve.ensures.fresh c.in_err-reserve.ensures.room).keeps

pub loop-j-preserved : goal.loop-j-preserved
loop-j-preserved c = record {
  reserved = reserved-one c.args.columns.now c.loop-j.columns c.loop-j.j c.index-columns-j.result c.reserve.new.self c.loop-j.invariant.reserved (omega (arith, c.loop-j-test.true))
      c.in_ok-reserve.ensures.states c.in_ok-reserve.ensures.fresh c.in_ok-reserve.ensures.room;
  room = room-more c.loop-j.columns c.loop-j.j c.reserve.new.self c.loop-j.room c.min-room.result (omega (arith, c.loop-j-test.true)) c.loop-j.invariant.room
      (omega (arith, c.min-room.ensures)) (omega (arith, c.min-room.ensures, c.room.ensures));
  enough = omega (arith, c.min-room.ensures, c.room.ensures, c.loop-j.invariant.enough, c.in_ok-reserve.ensures.ok);
  bound = omega (arith, c.min-room.ensures, c.loop-j.invariant.bound);
}

pub returns-clause-room : goal.returns-clause-room
returns-clause-room c =
    let all : length c.loop-j.columns ≤ c.loop-j.j = omega (arith, c.loop-j-test.false) in
    subst (λ (cs : List ColumnStates). HaveRoom c.loop-j.room cs) (take_all c.loop-j.j c.loop-j.columns all) c.loop-j.invariant.room
