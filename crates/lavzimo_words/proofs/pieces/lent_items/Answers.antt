use Rattle.std.proofs.Common.{Result}
use Rattle.lavzimo_words.specs.Items.{item_of}
use Rattle.lavzimo_words.specs.declared.item.Item.{Item}
use Rattle.lavzimo_words.specs.declared.pieces.Piece.{Piece}
use Rattle.lavzimo_words.specs.declared.refusal.Refusal.{Refusal}
use Rattle.lavzimo_words.proofs.ResultFacts.{given-all, given-first, given-more}
use Rattle.lavzimo_words.proofs.pieces.lent_items.Goals as goal

abbrev lent_item : Piece → Result Item Refusal
lent_item p = item_of p.role p.text.now

pub loop-i-init : goal.loop-i-init
loop-i-init c = rw c.new-items.ensures.items (given-first lent_item c.args.pieces.now)

pub loop-i-preserved : goal.loop-i-preserved
loop-i-preserved c =
    given-more lent_item c.args.pieces.now c.loop-i.i _ c.in_ok-item.item c.loop-i.items.items c.push.new.self.items c.loop-i-test.true c.in_ok-item.ensures.item c.in_ok-push.ensures.items c.loop-i.invariant

pub returns-clause-items : goal.returns-clause-items
returns-clause-items c = given-all lent_item c.args.pieces.now c.loop-i.i c.loop-i.items.items c.loop-i-test.false c.loop-i.invariant
