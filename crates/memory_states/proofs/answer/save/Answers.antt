use Rattle.std.proofs.Common.{rules, ◌≡◌, [], ◌∷◌, IsErrOf, Ok, Some, sym, ap, subst}
use Rattle.memory_runs.specs.TextRuns.{text_file, text_name}
use Rattle.memory_states.specs.Calls.{save_asked}
use Rattle.memory_states.specs.Results.{IsFaultOf}
use Rattle.pipe_aggs.specs.QueryTrees.{query_tree}
use Rattle.rollup_answer.specs.Headline.{IsOwed}
use Rattle.rollup_answer.specs.declared.fault.RollupFault.{RollupFault}
use Rattle.rollup_answer.specs.declared.fault.RollupFault.TheVariants as fault
use Rattle.rollup_words.specs.Asked.{Asked, saves, saves_of, whole_query}
use Rattle.memory_answer.specs.Answers.{bytes_query}
use Rattle.memory_states.proofs.ResultFacts.{ask-fault, no-save, save-fault}
use Rattle.memory_states.proofs.answer.save.Goals as goal

pub returns-in-Err-clause-fault : goal.returns-in-Err-clause-fault
returns-in-Err-clause-fault c =
    let a : Asked = save_asked c.args.query.now c.args.first in
    subst (λ (f : RollupFault). IsFaultOf f a (text_file c.args.text.now)) (sym c.ask_fault.ensures)
    (ask-fault c.in-Err.error a (text_file c.args.text.now) (no-save c.in-Err.error c.args.first (text_name ∷ []) (whole_query (bytes_query c.args.query.now)) c.in-Err.ensures.cause))

pub returns-in-Ok-saved_text-clause-text : goal.returns-in-Ok-saved_text-clause-text
returns-in-Ok-saved_text-clause-text c =
    let asked : save_asked c.args.query.now c.args.first ≡ saves (query_tree c.in-Ok.query) c.args.first (text_name ∷ []) = ap (saves_of c.args.first (text_name ∷ [])) c.in-Ok.ensures.query in
    subst (λ (a : Asked). IsOwed a (Some (text_file c.args.text.now)) c.in-Ok-saved_text.bytes.items) (sym asked) c.in-Ok-saved_text.ensures.saved

pub returns-in-Err-saved_text-clause-fault : goal.returns-in-Err-saved_text-clause-fault
returns-in-Err-saved_text-clause-fault c =
    let asked : save_asked c.args.query.now c.args.first ≡ saves (query_tree c.in-Ok.query) c.args.first (text_name ∷ []) = ap (saves_of c.args.first (text_name ∷ [])) c.in-Ok.ensures.query in
    subst (λ (a : Asked). IsFaultOf (fault.Save c.in-Err-saved_text.error) a (text_file c.args.text.now)) (sym asked)
    (save-fault c.in-Err-saved_text.error (query_tree c.in-Ok.query) c.args.first (text_name ∷ []) (text_file c.args.text.now) (λ is. search rules) c.in-Err-saved_text.ensures.cause)
