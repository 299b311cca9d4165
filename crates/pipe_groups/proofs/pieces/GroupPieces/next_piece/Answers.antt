use Rattle.std.proofs.Common.{◌+◌, List, length, take, refl, subst}
use Rattle.pipe_groups.specs.declared.pieces.GroupPieces.TheInside.{Inside}
use Rattle.pipe_groups.specs.Given.{IsFrameOfGroups}
use Rattle.pipe_groups.specs.Groups.{Group}
use Rattle.pipe_groups.specs.Pieces.{PiecesSeen}
use Rattle.pipe_groups.proofs.PiecesFacts.{kept-are, next-are, next-seen, piece-gives, piece-groups, piece-is, piece-once}
use Rattle.pipe_groups.proofs.pieces.GroupPieces.next_piece.Goals as goal

pub give_frame-requires-clause-once : goal.give_frame-requires-clause-once
give_frame-requires-clause-once c =
    let is = piece-is c.self.inside c.args.most _ _ c.deref.ensures.value c.front_of-piece.ensures in
    piece-once c.self.inside c.self.invariant c.args.most _ is

pub give_frame-requires-clause-gives : goal.give_frame-requires-clause-gives
give_frame-requires-clause-gives c =
    let is = piece-is c.self.inside c.args.most _ _ c.deref.ensures.value c.front_of-piece.ensures in
    piece-gives c.self.inside c.self.invariant c.args.most _ is

pub invariant_of-self-in_err-frame : goal.invariant_of-self-in_err-frame
invariant_of-self-in_err-frame c = kept-are c.self.inside _ refl refl c.in_err-frame.ensures.err c.self.invariant

pub invariant_of-self-2 : goal.invariant_of-self-2
invariant_of-self-2 c =
    let is = piece-is c.self.inside c.args.most _ _ c.deref.ensures.value c.front_of-piece.ensures in
    next-are c.self.inside c.self.invariant c.args.most _ is _ refl refl c.in_ok-frame.ensures.shape c.in_ok-frame.ensures.count c.in_ok-frame.ensures.others

pub returns-clause-frame : goal.returns-clause-frame
returns-clause-frame c =
    let is = piece-is c.self.inside c.args.most _ _ c.deref.ensures.value c.front_of-piece.ensures in
    subst (λ (t : PiecesSeen). IsFrameOfGroups t.shape (take c.args.most t.left) c.in_ok-frame.frame) c.self.view_is
    (subst (λ (gs : List Group). IsFrameOfGroups c.self.inside.groups.shape gs c.in_ok-frame.frame)
    (piece-groups c.self.inside c.self.invariant c.args.most _ is) c.in_ok-frame.ensures.frame)

pub returns-clause-left : goal.returns-clause-left
returns-clause-left c =
    let is = piece-is c.self.inside c.args.most _ _ c.deref.ensures.value c.front_of-piece.ensures in
    let b : Inside = record { groups = c.give_frame.new.self; order = c.self.inside.order; next = c.self.inside.next + length c.front_of-piece.result.now } in
    next-seen c.self.inside c.self.invariant c.args.most _ is b refl refl c.in_ok-frame.ensures.shape c.in_ok-frame.ensures.count c.in_ok-frame.ensures.others
    c.args.self.now c.self.view_is
