use Rattle.std.proofs.Common.{rules, ◌∙◌, ◌<◌, ◌++◌, ◌∷◌, [], List, length, take, get_or, append_assoc, ap}
use Rattle.pipe_columns.specs.declared.schema.Field.{Field}
use Rattle.pipe_regroup.specs.Frames.{fields_at}
use Rattle.pipe_regroup.proofs.FieldFacts.{fields-more}
use Rattle.pipe_regroup.proofs.kept_fields.push_at.Goals as goal

pub loop-i-preserved : goal.loop-i-preserved
loop-i-preserved c =
    let all : List Field = c.args.all.now in
    let ks = c.args.positions.now in
    let i = c.loop-i.i in
    let front : List Field = c.args.fields.now.items in
    let within : get_or ks i 0 < length all = search rules in
    c.in_ok-push.ensures.items
    ∙ (λ j. c.loop-i.invariant j ++ (c.in_ok-copied.ensures ∙ c.index-all-index.is) j ∷ [])
    ∙ append_assoc front (fields_at all (take i ks)) (get_or all (get_or ks i 0) c.index-all-index.result ∷ [])
    ∙ ap (λ (l : List Field). front ++ l) (fields-more all ks i 0 c.index-all-index.result c.loop-i-test.true within)
