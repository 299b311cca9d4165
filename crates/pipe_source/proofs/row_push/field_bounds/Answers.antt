use Rattle.std.proofs.Common.{◌≡◌, ◌<◌, ◌+◌, ◌-◌, ℕ, zero, suc, List, get_or, length, refl, arith}
use Rattle.pipe_source.proofs.PlacedFields.{begin_of, cut-at, order-at}
use Rattle.pipe_source.proofs.row_push.field_bounds.Goals as goal

-- a later field begins behind the end of the one before it
begin-later : (start : ℕ) (ends : List ℕ) (place : ℕ) → 0 < place → begin_of start ends place ≡ get_or ends (place - 1) 0 + 1
begin-later start ends zero h = absurd (omega (arith, h))
begin-later start ends (suc i) h = let e : suc i - 1 ≡ i = omega arith in rw e refl

pub overflow_add-result : goal.overflow_add-result
overflow_add-result c =
    let b = begin-later c.args.start c.args.ends.now c.args.place (omega (arith, c.if-place-eq0.false)) in
    let o = order-at (length c.args.text.now) c.args.start c.args.ends.now c.args.place c.requires.order c.requires.place in
    omega (arith, b, o.0, o.1)

pub returns-clause-field : goal.returns-clause-field
returns-clause-field c =
    let b = begin-later c.args.start c.args.ends.now c.args.place (omega (arith, c.if-place-eq0.false)) in
    rw b at (cut-at c.args.text.now c.args.start c.args.ends.now c.args.place c.requires.place)

pub returns-clause-order : goal.returns-clause-order
returns-clause-order c =
    let b = begin-later c.args.start c.args.ends.now c.args.place (omega (arith, c.if-place-eq0.false)) in
    let o = order-at (length c.args.text.now) c.args.start c.args.ends.now c.args.place c.requires.order c.requires.place in
    omega (arith, b, o.0)

pub returns-clause-within : goal.returns-clause-within
returns-clause-within c = (order-at (length c.args.text.now) c.args.start c.args.ends.now c.args.place c.requires.order c.requires.place).1
