use Rattle.std.proofs.Common.{◌≡◌, ◌∙◌, ℕ, ◌++◌, ◌-◌, List, length, take, drop, ap}
use Rattle.std.proofs.lemmas.List.{length-map}
use Rattle.pipe_aggs.specs.QueryTrees.{query_tree}
use Rattle.pipe_columns.specs.declared.schema.Field.{Field}
use Rattle.pipe_model.specs.Expr.{Expr}
use Rattle.pipe_model.specs.Output.{output_schema}
use Rattle.pipe_model.specs.Query.{QueryTree}
use Rattle.pipe_model.specs.Typing.{known_type}
use Rattle.pipe_regroup.specs.Frames.{fields_at}
use Rattle.pipe_regroup.proofs.FieldFacts.{kept-schema}
use Rattle.pipe_regroup.proofs.kept_fields.kept_fields.Goals as goal

pub returns : goal.returns
returns c =
    let q : QueryTree = query_tree c.args.query.now in
    let n = length c.key_types-keys.result.now in
    let keep : List ℕ = c.args.keep.now in
    let keys : n ≡ length q.keys = ap length c.key_types-keys.ensures ∙ length-map q.keys (λ (e : Expr). known_type e q.schema) in
    let all : c.fields-all.result.now ≡ output_schema q = c.fields-all.ensures ∙ c.output_schema.ensures.schema in
    let kept : c.push_at.new.fields.items ≡ fields_at (take n c.fields-all.result.now) keep =
    c.in_ok-push_at.ensures ∙ ap (λ (l : List Field). l ++ fields_at (take n c.fields-all.result.now) keep) c.in_ok-fields.ensures.items in
    c.new.ensures ∙ c.in_ok-push_all.ensures
    ∙ ap (λ (l : List Field). l ++ take (length c.fields-all.result.now - n) (drop n c.fields-all.result.now)) kept
    ∙ (λ i. fields_at (take n (all i)) keep ++ take (length (all i) - n) (drop n (all i)))
    ∙ kept-schema q n keys keep
