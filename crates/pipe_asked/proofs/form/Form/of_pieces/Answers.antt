use Rattle.std.proofs.Common.{◌≡◌, [], subst, sym, take}
use Rattle.pipe_asked.proofs.PieceFacts.{front-all, front-first, front-more, groups-fields, piece-alike, piece-in, piece-taken, rest-fewer, some-left}
use Rattle.pipe_asked.proofs.form.Form.of_pieces.Goals as goal

pub of_frame-requires : goal.of_frame-requires
of_frame-requires g c =
    let p = c.args.pieces.now in
    let front = take c.piece-most.result p.left in
    let of = piece-in c.in_ok-first.first c.in-Some.front p.shape front c.in-Some.is c.in_ok-first.ensures.frame in
    subst (g.Self.Form.takes c.args.self.now) (sym (groups-fields p.shape front c.in-Some.front of)) c.requires.takes

pub rest-init : goal.rest-init
rest-init g c =
    let p = c.args.pieces.now in
    let of = piece-in c.in_ok-first.first c.in-Some.front p.shape (take c.piece-most.result p.left) c.in-Some.is c.in_ok-first.ensures.frame in
    front-first (g.Self.Form.is c.args.self.now) p c.piece-most.result c.next_piece.new.self c.in_ok-whole.whole c.in-Some.front of c.in_ok-first.ensures.left c.in_ok-whole.ensures

pub returns-in_default-given : goal.returns-in_default-given
returns-in_default-given g c =
    front-all (g.Self.Form.is c.args.self.now) c.args.pieces.now c.piece-most.result c.rest.pieces c.rest.whole c.rest.invariant (c.in_ok-given.ensures.over.0 c.in_default-given.is)

pub of_frame-requires-in-rest : goal.of_frame-requires-in-rest
of_frame-requires-in-rest g c =
    let now = c.rest.pieces in
    let of = piece-in c.in_ok-given.given c.in-Some-given.piece now.shape (take c.piece-most.result now.left) c.in-Some-given.is c.in_ok-given.ensures.frame in
    piece-taken (g.Self.Form.is c.args.self.now) c.args.pieces.now c.piece-most.result now c.rest.whole c.rest.invariant (g.Self.Form.takes c.args.self.now) c.in-Some-given.piece of c.requires.takes

pub put_below-requires : goal.put_below-requires
put_below-requires g c =
    let now = c.rest.pieces in
    let of = piece-in c.in_ok-given.given c.in-Some-given.piece now.shape (take c.piece-most.result now.left) c.in-Some-given.is c.in_ok-given.ensures.frame in
    piece-alike (g.Self.Form.is c.args.self.now) c.args.pieces.now c.piece-most.result now c.rest.whole c.rest.invariant c.in_ok-more.more c.in-Some-given.piece of c.in_ok-more.ensures

pub rest-smaller : goal.rest-smaller
rest-smaller g c =
    rest-fewer c.rest.pieces c.next_piece-in-rest.new.self c.piece-most.result c.piece-most.ensures c.in_ok-given.ensures.left
    (some-left c.in_ok-given.given c.in-Some-given.piece (c.rest.pieces.left ≡ []) c.in-Some-given.is c.in_ok-given.ensures.over.1)

pub rest-preserved : goal.rest-preserved
rest-preserved g c =
    let now = c.rest.pieces in
    let of = piece-in c.in_ok-given.given c.in-Some-given.piece now.shape (take c.piece-most.result now.left) c.in-Some-given.is c.in_ok-given.ensures.frame in
    front-more (g.Self.Form.is c.args.self.now) c.args.pieces.now c.piece-most.result now c.rest.whole c.rest.invariant c.next_piece-in-rest.new.self c.in_ok-more.more c.put_below.new.whole c.in-Some-given.piece of c.in_ok-more.ensures
    c.in_ok-given.ensures.left c.in_ok-put_below.ensures
