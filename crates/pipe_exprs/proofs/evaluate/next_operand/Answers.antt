use Rattle.std.proofs.Common.{rules, arith, ◌≡◌, ◌∙◌, ◌<◌, [], List, length, refl, sym, ap}
use Rattle.std.proofs.lemmas.List.{with_items_is}
use Rattle.pipe_exprs.specs.declared.operand.Operand.{Operand}
use Rattle.pipe_exprs.specs.Operands.{KeepsUsed, released_all}
use Rattle.pipe_exprs.specs.Trees.{children}
use Rattle.pipe_exprs.proofs.OperandFacts.{first, read, slot_read, tree-known}
use Rattle.pipe_exprs.proofs.ReachFacts.{alias-same, first-below, released-keeps, taken-keeps}
use Rattle.pipe_exprs.proofs.UseFacts.{there}
use Rattle.pipe_exprs.proofs.evaluate.next_operand.Goals as goal

pub offset_bounds-uses-input : goal.offset_bounds-uses-input
offset_bounds-uses-input c =
    let low = first-below c.args.arena.now c.args.node c.get-expr.result.now _ c.in-Alias.input [] c.get-expr.ensures.earlier c.get-expr.ensures.some c.in-Alias.is refl in
    let here : c.in-Alias.input.0 < length c.args.uses.now = omega (arith, low, c.requires.used) in
    search rules

pub bounds-uses-input : goal.bounds-uses-input
bounds-uses-input c =
    let low = first-below c.args.arena.now c.args.node c.get-expr.result.now _ c.in-Alias.input [] c.get-expr.ensures.earlier c.get-expr.ensures.some c.in-Alias.is refl in
    let here : c.in-Alias.input.0 < length c.args.uses.now = omega (arith, low, c.requires.used) in
    here

pub index_mut-requires : goal.index_mut-requires
index_mut-requires c =
    let held = first c.args.frame.now c.args.arena.now c.args.slots.now.items c.args.node c.get-expr.result.now _ c.in-Alias.input [] c.get-expr.ensures.some c.in-Alias.is refl c.requires.held in
    omega (arith, held.there, c.args.slots.now.ok.0)

pub returns-then-uses-input-clause-ok : goal.returns-then-uses-input-clause-ok
returns-then-uses-input-clause-ok c =
    let held = first c.args.frame.now c.args.arena.now c.args.slots.now.items c.args.node c.get-expr.result.now _ c.in-Alias.input [] c.get-expr.ensures.some c.in-Alias.is refl c.requires.held in
    let own = slot_read c.args.slots.now.items c.in-Alias.input.0 c.index_mut.result.now held.there c.index_mut.ensures.value in
    alias-same c.args.frame.now _ _ c.replace.result (tree-known c.args.arena.now c.args.node c.get-expr.result.now _ c.get-expr.ensures.earlier c.get-expr.ensures.some c.in-Alias.is)
    (read c.args.frame.now c.args.arena.now c.args.slots.now.items c.in-Alias.input c.replace.result held (c.replace.ensures.value ∙ sym own))

pub returns-then-uses-input-clause-kept : goal.returns-then-uses-input-clause-kept
returns-then-uses-input-clause-kept c =
    rw c.replace.ensures.after (taken-keeps c.args.uses.now c.args.node.0 c.args.slots.now.items c.in-Alias.input c.if-uses-input.true)

pub release-requires : goal.release-requires
release-requires c = record {
  slots = there c.args.arena.now c.args.node.0 _ c.get-expr.result.now c.get-expr.ensures.earlier c.get-expr.ensures.some (omega (arith, c.requires.earlier, ap length c.deref_mut.ensures.value));
  uses = there c.args.arena.now c.args.node.0 _ c.get-expr.result.now c.get-expr.ensures.earlier c.get-expr.ensures.some (omega (arith, c.requires.used));
}

pub returns-clause-kept : goal.returns-clause-kept
returns-clause-kept c =
    let slots : List Operand = c.args.slots.now.items in
    let named = children c.get-expr.result.now in
    let after : c.release.new.slots ≡ released_all c.args.uses.now c.args.node.0 slots named = c.release.ensures ∙ ap (λ (os : List Operand). released_all c.args.uses.now c.args.node.0 os named) c.deref_mut.ensures.value in
    let keeps : KeepsUsed c.args.uses.now c.args.node.0 slots c.release.new.slots = rw after (released-keeps c.args.uses.now c.args.node.0 slots named) in
    rw (with_items_is c.args.slots.now c.release.new.slots (keeps.size ∙ sym c.args.slots.now.ok.0)) keeps
