use Rattle.std.proofs.Common.{refl}
use Rattle.pipe_groups.specs.declared.pieces.GroupPieces.TheInside.{Inside}
use Rattle.pipe_groups.proofs.PiecesFacts.{made-are, made-seen}
use Rattle.pipe_groups.proofs.TakenFacts.{shape-is}
use Rattle.pipe_groups.proofs.groups.Groups.in_pieces.Goals as goal

pub invariant_of-result : goal.invariant_of-result
invariant_of-result c =
    let shape = shape-is c.self.inside c.args.self.now c.self.view_is c.self.invariant in
    made-are c.args.self.now c.in_ok-all.all.items c.args.slice.now _ c.replace-groups.ensures.value c.in_ok-order.ensures refl shape c.in_ok-all.ensures.within
    c.in_ok-all.ensures.once c.in_ok-all.ensures.rows c.requires.gives

pub returns-clause-pieces : goal.returns-clause-pieces
returns-clause-pieces c =
    let b : Inside = record { groups = c.replace-groups.result; order = c.in_ok-order.order; next = 0 } in
    made-seen c.args.self.now c.in_ok-all.all.items c.args.slice.now b c.replace-groups.ensures.value c.in_ok-order.ensures refl c.in_ok-all.ensures.order
