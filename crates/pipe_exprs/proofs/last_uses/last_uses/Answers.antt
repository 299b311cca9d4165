use Rattle.std.proofs.Common.{arith, ◌≡◌, ◌+◌, ◌-◌, ◌∙◌, ◌<◌, ℕ, List, length, get_or, ap, sym}
use Rattle.std.proofs.lemmas.List.{get_or_default, with_items_is}
use Rattle.pipe_exprs.specs.Trees.{children}
use Rattle.pipe_exprs.specs.Uses.{AreLastUses, noted_all}
use Rattle.pipe_exprs.proofs.UseFacts.{all_noted-length, one_more, there, unused, used}
use Rattle.pipe_exprs.proofs.last_uses.last_uses.Goals as goal
use Rattle.pipe_exprs.proofs.last_uses.last_uses.Goals.{then-index-gt0, else-index-gt0}

pub note_children-requires : goal.note_children-requires
note_children-requires c =
    there c.args.arena.now (c.args.root.0 - c.loop-step.step) _ c.get.result.now c.get.ensures.earlier c.get.ensures.some
    (omega (arith, c.loop-step.invariant.size, c.deref_mut.ensures.len))

pub loop-step-preserved : goal.loop-step-preserved
loop-step-preserved c =
    let i : ℕ = c.args.root.0 - c.loop-step.step in
    let us : List ℕ = c.loop-step.uses.items in
    let now : c.args.root.0 + 1 - (c.loop-step.step + 1) ≡ i = omega arith in
    let last : c.args.root.0 + 1 - c.loop-step.step ≡ i + 1 = omega arith in
    let before : AreLastUses c.args.arena.now c.args.root (i + 1) us = one_more c.args.arena.now c.args.root (i + 1) (c.args.root.0 + 1 - c.loop-step.step) us last c.loop-step.invariant in
    let size : i < length us = omega (arith, c.loop-step.invariant.size) in
    let read : c.index.result.now ≡ get_or us i 0 = c.index.ensures ∙ get_or_default us i c.index.result.now 0 size in
    rw now (elim c.if-index-gt0.branch [
      | then-index-gt0 w ↦
          let noted : w.note_children.new.uses ≡ noted_all i us (children w.get.result.now) = w.note_children.ensures ∙ ap (λ (t : List ℕ). noted_all i t (children w.get.result.now)) w.deref_mut.ensures.value in
          let filled : length w.note_children.new.uses ≡ c.loop-step.uses.len = ap length noted ∙ all_noted-length i us (children w.get.result.now) ∙ sym c.loop-step.uses.ok.0 in
          rw (w.uses-is, with_items_is c.loop-step.uses w.note_children.new.uses filled, noted) (used c.args.arena.now c.args.root i w.get.result.now us w.get.ensures.earlier w.get.ensures.some (omega (arith, read, w.if-index-gt0.true)) (omega arith) before)
      | else-index-gt0 w ↦ rw w.uses-is (unused c.args.arena.now c.args.root i us (omega (arith, read, w.if-index-gt0.false)) before)
    ])
