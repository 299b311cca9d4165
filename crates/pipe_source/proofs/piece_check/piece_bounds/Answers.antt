use Rattle.std.proofs.Common.{◌≡◌, ◌++◌, [], ◌∷◌, rules}
use Rattle.pipe_source.proofs.PieceRows.{bounds-more, bounds-none, part-of}
use Rattle.pipe_source.proofs.piece_check.piece_bounds.Goals as goal

pub loop-low-init : goal.loop-low-init
loop-low-init c =
    let items : c.push.new.self.items ≡ c.args.begin ∷ [] = search rules in record {
      within = c.requires.within;
      cut = bounds-none c.args.text.now c.args.begin c.push.new.self.items items;
    }

pub loop-low-preserved : goal.loop-low-preserved
loop-low-preserved c =
    let items : c.push-in-loop-low.new.self.items ≡ c.loop-low.bounds.items ++ (c.piece_end-end.result ∷ []) = search rules in
    let part = part-of c.args.text.now c.args.bytes c.loop-low.low c.piece_end-end.result c.loop-low-test.true c.piece_end-end.ensures.piece in record {
      within = c.piece_end-end.ensures.piece.within;
      cut = bounds-more c.args.text.now c.args.begin c.loop-low.low c.piece_end-end.result c.loop-low.bounds.items c.push-in-loop-low.new.self.items items c.loop-low.invariant.cut part;
    }
