use Rattle.std.proofs.Common.{◌<◌, Some, None, arith}
use Rattle.std.proofs.lemmas.Int.{to_z-of_z}
use Rattle.pipe_scan.proofs.NumberFacts.{field-number}
use Rattle.pipe_scan.proofs.numbers.field_number.Goals as goal

pub returns-in-Some : goal.returns-in-Some
returns-in-Some c =
    let l : c.args.low < c.args.high = omega (arith, c.requires.order, c.if-low-high.false) in
    let e = field-number c.args.text.now c.args.low c.args.high (Some c.in-Some.magnitude) l c.requires.within (rw c.from.ensures at c.in-Some.ensures.number) in
    grind (arith, to_z-of_z, e, c.with_sign.ensures)

pub returns-in-None : goal.returns-in-None
returns-in-None c =
    let l : c.args.low < c.args.high = omega (arith, c.requires.order, c.if-low-high.false) in
    field-number c.args.text.now c.args.low c.args.high None l c.requires.within (rw c.from.ensures at c.in-None.ensures.number)
