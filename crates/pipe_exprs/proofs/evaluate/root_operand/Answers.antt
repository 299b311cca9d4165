use Rattle.std.proofs.Common.{arith, ◌≡◌, ◌∙◌, ◌<◌, ◌-◌, ℕ, List, length, get_or, sym, ap, subst, Some}
use Rattle.std.proofs.lemmas.List.{get_or_default}
use Rattle.pipe_columns.specs.declared.any_value.AnyValue.TheVariants as av
use Rattle.pipe_columns.specs.Frame.{fields_of}
use Rattle.std.specs.Vec.{vec_len}
use Rattle.std.proofs.lemmas.Option.{same_Some}
use Rattle.pipe_exprs.specs.declared.operand.Operand.{Operand}
use Rattle.pipe_exprs.specs.declared.operand.Operand.TheVariants as operand
use Rattle.pipe_exprs.specs.Operands.{KeepsUsed}
use Rattle.pipe_exprs.proofs.ReachFacts.{holds-at, last-ready, named-held, nothing-dropped, reached-typed, ready-more}
use Rattle.pipe_exprs.proofs.evaluate.root_operand.Goals as goal
use Rattle.pipe_exprs.proofs.evaluate.root_operand.Goals.{then-index-gt0+in_ok-operand, else-index-gt0}

pub next_operand-requires : goal.next_operand-requires
next_operand-requires c =
    let uses : List ℕ = c.in_ok-uses.uses.items in
    let last = c.in_ok-uses.ensures.uses in
    let here : c.loop-place.place < length uses = omega (arith, c.loop-place-test.true, c.len-place-end.ensures, c.in_ok-uses.uses.ok.0) in
    let used : 0 < get_or uses c.loop-place.place 0 = omega (arith, c.if-index-gt0.true, c.index.ensures, get_or_default uses c.loop-place.place c.index.result.now 0 here) in
    record {
      in_arena = omega (arith, last.size, c.requires.in_arena);
      types = c.requires.types;
      fit = c.requires.fit;
      typed = reached-typed c.args.arena.now c.args.root (record { 0 = c.loop-place.place }) uses (fields_of c.args.frame.now.columns) c.in_ok-uses.ensures.earlier last c.requires.typed used;
      held = named-held c.args.frame.now c.args.arena.now c.args.root (record { 0 = c.loop-place.place }) uses c.loop-place.slots.items c.in_ok-uses.ensures.earlier last used c.loop-place.invariant;
      earlier = omega (arith, c.loop-place.invariant.size);
      used = omega (arith, here, ap length c.deref.ensures.value);
    }

pub loop-place-preserved : goal.loop-place-preserved
loop-place-preserved c =
    let uses : List ℕ = c.in_ok-uses.uses.items in
    let place : ℕ = c.loop-place.place in
    let before : List Operand = c.loop-place.slots.items in
    let here : place < length uses = omega (arith, c.loop-place-test.true, c.len-place-end.ensures, c.in_ok-uses.uses.ok.0) in
    let read : c.index.result.now ≡ get_or uses place 0 = c.index.ensures ∙ get_or_default uses place c.index.result.now 0 here in
    rw c.in_ok-push.ensures.items (elim c.if-index-gt0.branch [
      | then-index-gt0+in_ok-operand w ↦
          rw (w.slots-is, w.operand-is) (ready-more c.args.frame.now c.args.arena.now uses place before w.next_operand.new.slots.items w.in_ok-operand.operand c.loop-place.invariant
          (subst (λ (us : List ℕ). KeepsUsed us place before w.next_operand.new.slots.items) w.deref.ensures.value w.in_ok-operand.ensures.kept)
          (λ n at used. holds-at c.args.frame.now c.args.arena.now (record { 0 = place }) n w.in_ok-operand.operand at w.in_ok-operand.ensures.ok))
      | else-index-gt0 w ↦
          rw (w.slots-is, w.operand-is) (ready-more c.args.frame.now c.args.arena.now uses place before before (operand.Constant av.Null) c.loop-place.invariant (nothing-dropped uses place before)
          (λ n at used. absurd (omega (arith, read, w.if-index-gt0.false, ap (λ (k : ℕ). get_or uses k 0) at))))
    ])

pub unwrap-requires : goal.unwrap-requires
unwrap-requires c = c.pop.ensures.variant.1 (omega (arith, c.loop-place-test.false, c.len-place-end.ensures, c.in_ok-uses.uses.ok.0, c.in_ok-uses.ensures.uses.size, c.loop-place.invariant.size, c.loop-place.slots.ok.0))

pub returns-clause-values : goal.returns-clause-values
returns-clause-values c =
    let slots : List Operand = c.loop-place.slots.items in
    let all : c.loop-place.place ≡ length c.in_ok-uses.uses.items = omega (arith, c.loop-place-test.false, c.loop-place.auto.place-end, c.len-place-end.ensures, c.in_ok-uses.uses.ok.0) in
    let some : 0 < vec_len c.loop-place.slots = omega (arith, all, c.in_ok-uses.ensures.uses.size, c.loop-place.invariant.size, c.loop-place.slots.ok.0) in
    let last : Some c.unwrap.result ≡ Some (get_or slots (vec_len c.loop-place.slots - 1) (operand.Constant av.Null)) = sym c.unwrap.ensures ∙ c.pop.ensures.value (operand.Constant av.Null) some in
    let size : vec_len c.loop-place.slots - 1 ≡ length slots - 1 = omega (arith, c.loop-place.slots.ok.0) in
    let is : c.unwrap.result ≡ get_or slots (length slots - 1) (operand.Constant av.Null) = same_Some _ _ last ∙ ap (λ (k : ℕ). get_or slots k (operand.Constant av.Null)) size in
    last-ready c.args.frame.now c.args.arena.now c.args.root c.in_ok-uses.uses.items c.loop-place.place slots c.unwrap.result c.loop-place.invariant c.in_ok-uses.ensures.uses all is
