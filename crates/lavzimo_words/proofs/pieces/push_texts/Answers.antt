use Rattle.std.proofs.Common.{◌∙◌, ap, sym, arith}
use Rattle.std.proofs.lemmas.List.{append-nil, map_push}
use Rattle.lavzimo_words.specs.Pieces.{piece_seen, pieces_seen}
use Rattle.lavzimo_words.proofs.PieceFacts.{behind-all, behind-more, lent_in_role}
use Rattle.lavzimo_words.proofs.pieces.push_texts.Goals as goal

pub loop-text-init : goal.loop-text-init
loop-text-init c = sym (append-nil (pieces_seen c.args.pieces.now.items))

pub loop-text-preserved : goal.loop-text-preserved
loop-text-preserved c =
    behind-more (lent_in_role c.args.role) (pieces_seen c.args.pieces.now.items) (pieces_seen c.loop-text.pieces.items) (pieces_seen c.push.new.self.items) c.args.texts.now c.loop-text.text-index _
    c.loop-text-test.true c.loop-text.invariant
    (ap pieces_seen c.in_ok-push.ensures.items ∙ map_push piece_seen c.loop-text.pieces.items _)

pub returns : goal.returns
returns c =
    behind-all (lent_in_role c.args.role) (pieces_seen c.args.pieces.now.items) (pieces_seen c.loop-text.pieces.items) c.args.texts.now c.loop-text.text-index (omega arith) c.loop-text.invariant
