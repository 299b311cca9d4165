use Rattle.std.proofs.Common.{None, sym, subst}
use Rattle.pipe_aggs.specs.QueryTrees.{query_tree}
use Rattle.summary_words.specs.Asked.{shows}
use Rattle.summary_answer.specs.Faults.{IsCaused}
use Rattle.summary_answer.specs.Opened.{opened}
use Rattle.summary_answer.proofs.EndFacts.{read-shows}
use Rattle.summary_answer.proofs.answer.show_of.Goals as goal

pub returns-in-Err-clause-cause : goal.returns-in-Err-clause-cause
returns-in-Err-clause-cause g c =
    let told = g.S.SpillStore.told c.args.store in
    let held = g.S.SpillStore.held c.args.store in
    let q = query_tree c.args.query.now in
    subst (λ f. IsCaused f (shows q) (opened told held) None) (sym c.read_fault.ensures) (read-shows c.in-Err.error q None told held c.in-Err.ensures.damaged)
