use Rattle.std.proofs.Common.{◌≡◌, ℕ, List, Ok, Result, sym, subst}
use Rattle.std.specs.Prelude.{IfErr, IfOk}
use Rattle.lavzimo_words.specs.Items.{item_of, items_of}
use Rattle.lavzimo_words.specs.Pieces.{piece_seen, pieces_seen}
use Rattle.lavzimo_words.specs.Results.{IsRefusedFor, each_ok}
use Rattle.lavzimo_words.specs.declared.item.Item.{Item}
use Rattle.lavzimo_words.specs.declared.pieces.Piece.{Piece}
use Rattle.lavzimo_words.specs.declared.refusal.Refusal.{Refusal}
use Rattle.lavzimo_words.specs.declared.role.Role.{Role}
use Rattle.lavzimo_words.proofs.ResultFacts.{each-map}
use Rattle.lavzimo_words.proofs.pieces.items_of.Goals as goal

-- the item of a piece of a role
abbrev item_in : Role × List ℕ → Result Item Refusal
item_in p = item_of p.0 p.1

same-items : (ps : List Piece) → each_ok (λ (p : Piece). item_of p.role p.text.now) ps ≡ items_of (pieces_seen ps)
same-items ps = sym (each-map item_in piece_seen ps)

pub returns-clause-items : goal.returns-clause-items
returns-clause-items c = subst (λ (x : Result (List Item) Refusal). IfOk c.lent_items.result (λ v. x ≡ Ok v.items)) (same-items c.args.pieces.now) c.lent_items.ensures.items

pub returns-clause-cause : goal.returns-clause-cause
returns-clause-cause c = subst (λ (x : Result (List Item) Refusal). IfErr c.lent_items.result (λ e. IsRefusedFor e x)) (same-items c.args.pieces.now) c.lent_items.ensures.cause
