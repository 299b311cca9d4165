use Rattle.std.proofs.Common.{rules, ◌≡◌, ◌∙◌, true, false, List, ℕ, length, Ok, Some, inl, refl, sym, ap, subst}
use Rattle.memory_answer.specs.Answers.{bytes_query}
use Rattle.memory_states.specs.Calls.{are_lengths, bytes_kept, keys_asked, number_names, roll_asked, state_files}
use Rattle.memory_states.specs.Results.{IsFaultOf}
use Rattle.memory_states.proofs.AskedFacts.{by-keys, by-kept, other-lengths, their-lengths}
use Rattle.memory_states.proofs.ResultFacts.{ask-fault, no-keys, no-roll, roll-fault}
use Rattle.pipe_aggs.specs.QueryTrees.{query_tree}
use Rattle.pipe_io.specs.Files.{Files}
use Rattle.pipe_model.specs.Query.{QueryTree}
use Rattle.rollup_answer.specs.Headline.{IsOwed}
use Rattle.rollup_answer.specs.Inside.{ask_fault}
use Rattle.rollup_answer.specs.declared.fault.RollupFault.{RollupFault}
use Rattle.rollup_answer.specs.declared.fault.RollupFault.TheVariants as fault
use Rattle.rollup_words.specs.Asked.{Asked, rolls, whole_query}
use Rattle.memory_states.proofs.answer.roll.Goals as goal

pub returns-then-not-are_lengths-clause-fault : goal.returns-then-not-are_lengths-clause-fault
returns-then-not-are_lengths-clause-fault c =
    let other : are_lengths c.args.lengths.now c.args.states.now ≡ false = search rules in
    inl (refl, other-lengths c.args.query.now c.args.keys.now c.args.lengths.now c.args.states.now other)

pub returns-in-Err-clause-fault : goal.returns-in-Err-clause-fault
returns-in-Err-clause-fault c =
    let a : Asked = roll_asked c.args.query.now c.args.keys.now c.args.lengths.now c.args.states.now in
    let files : Files = state_files c.args.lengths.now c.args.states.now in
    let whole : are_lengths c.args.lengths.now c.args.states.now ≡ true = search rules in
    let asked = their-lengths c.args.query.now c.args.keys.now c.args.lengths.now c.args.states.now whole in
    subst (λ (f : RollupFault). IsFaultOf f a files) (sym c.ask_fault.ensures)
    (subst (λ (b : Asked). IsFaultOf (ask_fault c.in-Err.error) b files) (sym asked)
    (ask-fault c.in-Err.error (keys_asked c.args.keys.now (length c.args.lengths.now) (whole_query (bytes_query c.args.query.now))) files
    (no-roll c.in-Err.error c.args.keys.now (length c.args.lengths.now) (whole_query (bytes_query c.args.query.now)) c.in-Err.ensures.cause)))

pub returns-in-Err-keys_of-clause-fault : goal.returns-in-Err-keys_of-clause-fault
returns-in-Err-keys_of-clause-fault c =
    let a : Asked = roll_asked c.args.query.now c.args.keys.now c.args.lengths.now c.args.states.now in
    let files : Files = state_files c.args.lengths.now c.args.states.now in
    let q : QueryTree = query_tree c.in-Ok.query in
    let whole : are_lengths c.args.lengths.now c.args.states.now ≡ true = search rules in
    let asked = by-keys c.args.query.now c.args.keys.now c.args.lengths.now c.args.states.now q whole c.in-Ok.ensures.query in
    subst (λ (f : RollupFault). IsFaultOf f a files) (sym c.ask_fault-in-Err-keys_of.ensures)
    (subst (λ (b : Asked). IsFaultOf (ask_fault c.in-Err-keys_of.error) b files) (sym asked)
    (ask-fault c.in-Err-keys_of.error _ files
    (no-keys c.in-Err-keys_of.error q (number_names (length c.args.lengths.now)) (bytes_kept q c.args.keys.now) c.in-Err-keys_of.ensures.cause)))

pub returns-in-Err-rolled_frame-clause-fault : goal.returns-in-Err-rolled_frame-clause-fault
returns-in-Err-rolled_frame-clause-fault c =
    let files : Files = state_files c.args.lengths.now c.args.states.now in
    let names : List (List ℕ) = number_names (length c.args.lengths.now) in
    let q : QueryTree = query_tree c.in-Ok.query in
    let whole : are_lengths c.args.lengths.now c.args.states.now ≡ true = search rules in
    let asked : roll_asked c.args.query.now c.args.keys.now c.args.lengths.now c.args.states.now ≡ rolls q c.in-Ok-keys_of.keep.items names =
    by-kept c.args.query.now c.args.keys.now c.args.lengths.now c.args.states.now q whole c.in-Ok.ensures.query c.in-Ok-keys_of.keep.items c.in-Ok-keys_of.ensures.kept in
    subst (λ (a : Asked). IsFaultOf (fault.Roll c.in-Err-rolled_frame.error) a files) (sym asked)
    (roll-fault c.in-Err-rolled_frame.error q c.in-Ok-keys_of.keep.items names files (λ is. search rules) c.in-Err-rolled_frame.ensures.refused)

pub returns-in-Ok-text_of_frame-clause-text : goal.returns-in-Ok-text_of_frame-clause-text
returns-in-Ok-text_of_frame-clause-text c =
    let files : Files = state_files c.args.lengths.now c.args.states.now in
    let names : List (List ℕ) = number_names (length c.args.lengths.now) in
    let q : QueryTree = query_tree c.in-Ok.query in
    let whole : are_lengths c.args.lengths.now c.args.states.now ≡ true = search rules in
    let asked : roll_asked c.args.query.now c.args.keys.now c.args.lengths.now c.args.states.now ≡ rolls q c.in-Ok-keys_of.keep.items names =
    by-kept c.args.query.now c.args.keys.now c.args.lengths.now c.args.states.now q whole c.in-Ok.ensures.query c.in-Ok-keys_of.keep.items c.in-Ok-keys_of.ensures.kept in
    subst (λ (a : Asked). IsOwed a (Some files) c.in-Ok-text_of_frame.text.items) (sym asked)
    (record {
      frame = c.in-Ok-rolled_frame.frame;
      rolled = search rules;
      text_is = c.in-Ok-text_of_frame.ensures;
    })
