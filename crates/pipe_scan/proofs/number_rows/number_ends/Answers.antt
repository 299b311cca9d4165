use Rattle.pipe_scan.specs.NumberBlock.{IsNumberBlock}
use Rattle.pipe_scan.proofs.NumberMarks.{lines-of, number-block}
use Rattle.pipe_scan.proofs.number_rows.number_ends.Goals as goal

pub returns-clause-block : goal.returns-clause-block
returns-clause-block c =
    number-block c.args.text.now c.args.at c.others_at.result c.legal_ends-ends.result c.requires c.others_at.ensures c.others_at.type_inv
    (rw (c.equal_at-lines.ensures, c.equal_at.ensures, c.equal_at-2.ensures) at c.legal_ends-ends.ensures)

pub returns-clause-lines : goal.returns-clause-lines
returns-clause-lines c =
    let b : IsNumberBlock c.args.text.now c.args.at c.args.at c.legal_ends-ends.result =
    number-block c.args.text.now c.args.at c.others_at.result c.legal_ends-ends.result c.requires c.others_at.ensures c.others_at.type_inv
    (rw (c.equal_at-lines.ensures, c.equal_at.ensures, c.equal_at-2.ensures) at c.legal_ends-ends.ensures) in
    rw c.equal_at-lines.ensures (lines-of c.args.text.now c.args.at c.legal_ends-ends.result c.requires b)
