use Rattle.std.proofs.Common.{◌∙◌, arith}
use Rattle.pipe_source.proofs.TextRows.{laid-few, laid-placed}
use Rattle.pipe_source.proofs.LaidFacts.{fits-any}
use Rattle.pipe_source.proofs.look_over.look_over.Goals as goal

pub check_laid_rows-requires-clause-fit : goal.check_laid_rows-requires-clause-fit
check_laid_rows-requires-clause-fit c = fits-any c.args.by_name c.args.columns.now c.in-Ok.found.0 c.in-Ok.ensures.fit

pub returns-in-Ok-check_laid_rows-clause-rows : goal.returns-in-Ok-check_laid_rows-clause-rows
returns-in-Ok-check_laid_rows-clause-rows c =
    let rows = rw c.unwrap_or-most.ensures at c.in-Ok-check_laid_rows.ensures.reads in
    (rows.0, c.in-Ok.ensures.rows c.args.wanted ∙ rows.1, laid-placed c.args.file _ c.in-Ok-check_laid_rows.count c.in-Ok.found.0 c.args.columns.now c.args.text.now c.in-Ok.found.1 rows.0 rows.1 rows.2 c.in-Ok.ensures.within)

pub returns-in-Ok-check_laid_rows-clause-few : goal.returns-in-Ok-check_laid_rows-clause-few
returns-in-Ok-check_laid_rows-clause-few c =
    let rows = c.in-Ok-check_laid_rows.ensures.reads in
    omega (arith, laid-few c.args.file c.unwrap_or-most.result c.in-Ok-check_laid_rows.count c.in-Ok.found.0 c.args.columns.now c.args.text.now c.in-Ok.found.1 rows.0 rows.1 rows.2, c.requires.small)
