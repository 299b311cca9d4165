use Rattle.std.proofs.Common.{rules, ◌∙◌, ◌<◌, ◌++◌, ◌∷◌, [], List, length, take, get_or, ap}
use Rattle.pipe_columns.specs.declared.any_value.AnyValue.{AnyValue}
use Rattle.pipe_states.specs.Regrouped.{kept}
use Rattle.pipe_regroup.proofs.ListFacts.{kept-more}
use Rattle.pipe_regroup.proofs.group.kept_values.Goals as goal

pub loop-i-preserved : goal.loop-i-preserved
loop-i-preserved c =
    let within : get_or c.args.keep.now c.loop-i.i 0 < length c.args.key.now = search rules in
    c.in_ok-push.ensures.items ∙ ap (λ (l : List AnyValue). l ++ c.in_ok-try_clone.field-0 ∷ []) c.loop-i.invariant
    ∙ ap (λ (v : AnyValue). kept (take c.loop-i.i c.args.keep.now) c.args.key.now ++ v ∷ []) c.in_ok-try_clone.ensures
    ∙ kept-more c.args.keep.now c.args.key.now c.loop-i.i 0 c.index-key-index.result c.loop-i-test.true within c.index-key-index.is
