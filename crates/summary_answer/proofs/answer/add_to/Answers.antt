use Rattle.std.proofs.Common.{sym, subst}
use Rattle.pipe_aggs.specs.QueryTrees.{query_tree}
use Rattle.summary_words.specs.Asked.{adds}
use Rattle.summary_answer.specs.Faults.{IsCaused}
use Rattle.summary_answer.specs.Opened.{opened}
use Rattle.summary_answer.proofs.EndFacts.{read-adds}
use Rattle.summary_answer.proofs.answer.add_to.Goals as goal

pub returns-in-Err-clause-cause : goal.returns-in-Err-clause-cause
returns-in-Err-clause-cause g c =
    let told = g.S.SpillStore.told c.args.store in
    let held = g.S.SpillStore.held c.args.store in
    let files = g.I.InputFiles.told c.args.input.now in
    let q = query_tree c.args.query.now in
    subst (λ f. IsCaused f (adds q c.args.files.items) (opened told held) files) (sym c.read_fault.ensures) (read-adds c.in-Err.error q c.args.files.items files told held c.in-Err.ensures.damaged)
