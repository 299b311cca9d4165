use Rattle.pipe_scan.proofs.PieceLists.{cut_more, cut_none, cut_pieces, cut_records}
use Rattle.pipe_scan.proofs.pieces.piece_ends.Goals as goal

pub loop-low-init : goal.loop-low-init
loop-low-init c = rw c.new-ends.ensures.items (cut_none c.args.text.now c.args.size c.args.at c.requires.within)

pub loop-low-preserved : goal.loop-low-preserved
loop-low-preserved c =
    let items = c.push.ensures.items in
    let same = rw c.if-is_err.ensures.negation at items in
    rw same (cut_more c.args.text.now c.args.size c.args.at c.loop-low.low c.piece_end-end.result c.loop-low.ends.items c.loop-low.invariant c.loop-low-test.true c.piece_end-end.ensures.piece c.piece_end-end.ensures.records)

pub returns-clause-pieces : goal.returns-clause-pieces
returns-clause-pieces c = cut_pieces c.args.text.now c.args.size c.args.at c.loop-low.low c.loop-low.ends.items c.loop-low.invariant c.loop-low-test.false

pub returns-clause-records : goal.returns-clause-records
returns-clause-records c = cut_records c.args.text.now c.args.size c.args.at c.loop-low.low c.loop-low.ends.items c.loop-low.invariant c.loop-low-test.false
