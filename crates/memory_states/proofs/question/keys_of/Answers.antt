use Rattle.std.proofs.Common.{rules, ◌≡◌, IfOk, IfErr, Some, refl}
use Rattle.memory_states.proofs.KeyFacts.{keys-can, none-kept, word-kept}
use Rattle.pipe_aggs.specs.QueryTrees.{query_tree}
use Rattle.rollup_words.specs.Keys.{kept_positions}
use Rattle.rollup_words.specs.Reading.{AreNoKeys}
use Rattle.memory_states.proofs.question.keys_of.Goals as goal

pub returns-in_default-clause-cause : goal.returns-in_default-clause-cause
returns-in_default-clause-cause c = (refl, none-kept (query_tree c.args.query.now) c.args.bytes.now c.in_default.ensures.cases.0)

pub returns-clause-kept : goal.returns-clause-kept
returns-clause-kept c =
    let kept : IfOk c.kept_positions.result (λ v. kept_positions (query_tree c.args.query.now) c.args.bytes.now ≡ Some v.items) = search rules in
    rw (word-kept (query_tree c.args.query.now) c.args.bytes.now c.in-Ok.ensures.cases.1) kept

pub returns-clause-can : goal.returns-clause-can
returns-clause-can c =
    let kept : IfOk c.kept_positions.result (λ v. kept_positions (query_tree c.args.query.now) c.args.bytes.now ≡ Some v.items) = search rules in
    keys-can (query_tree c.args.query.now) c.args.bytes.now c.kept_positions.result kept

pub returns-clause-cause : goal.returns-clause-cause
returns-clause-cause c =
    let none : IfErr c.kept_positions.result (λ e. AreNoKeys e (kept_positions (query_tree c.args.query.now) c.args.bytes.now)) = search rules in
    rw (word-kept (query_tree c.args.query.now) c.args.bytes.now c.in-Ok.ensures.cases.1) none
