use Rattle.std.proofs.Common.{◌≡◌, ◌∙◌, ap, Bool, List}
use Rattle.pipe_columns.specs.declared.schema.Field.{Field}
use Rattle.pipe_aggs.specs.declared.query.Query.{Query}
use Rattle.pipe_aggs.specs.QueryTrees.{query_tree}
use Rattle.narrow_query.specs.Names.{named_fields}
use Rattle.narrow_columns.specs.Wanted.{chosen}
use Rattle.narrow_query.proofs.AnswerFacts.{answer-same}
use Rattle.narrow_query.proofs.FaultFacts.{narrowed-faultless}
use Rattle.narrow_query.proofs.TreeNames.{arena-covers}
use Rattle.narrow_query.proofs.narrowing.narrow.Goals as goal

-- the schema of the wanted columns
narrower : (q : Query) (ws : List Bool) (fields : List Field) (some : List Bool) (all narrow : List Field)
    → fields ≡ q.schema → ws ≡ named_fields q.arena fields → some ≡ ws → all ≡ q.schema → narrow ≡ chosen some all
    → (ws ≡ named_fields q.arena q.schema) × (narrow ≡ chosen (named_fields q.arena q.schema) q.schema)
narrower q ws fields some all narrow f w s a n =
    let same : ws ≡ named_fields q.arena q.schema = w ∙ ap (named_fields q.arena) f in
    (same, n ∙ ap (chosen some) a ∙ ap (λ (t : List Bool). chosen t q.schema) (s ∙ same))

pub returns-clause-faultless : goal.returns-clause-faultless
returns-clause-faultless c =
    let q : Query = c.args.query in
    let same = narrower q c.in_ok-wanted.wanted.items c.fields.result.now c.deref.result.now c.fields-2.result.now c.in_ok-narrower.narrower c.fields.ensures c.in_ok-wanted.ensures c.deref.ensures.value c.fields-2.ensures c.in_ok-narrower.ensures in
    rw (same.1) (narrowed-faultless q c.len-count.ensures.utf8 c.requires)

pub returns-clause-covered : goal.returns-clause-covered
returns-clause-covered c =
    let q : Query = c.args.query in
    let same = narrower q c.in_ok-wanted.wanted.items c.fields.result.now c.deref.result.now c.fields-2.result.now c.in_ok-narrower.narrower c.fields.ensures c.in_ok-wanted.ensures c.deref.ensures.value c.fields-2.ensures c.in_ok-narrower.ensures in
    rw (same.0) (arena-covers q)

pub returns-clause-answer : goal.returns-clause-answer
returns-clause-answer c = λ chunks partitions fits.
    let q : Query = c.args.query in
    let same = narrower q c.in_ok-wanted.wanted.items c.fields.result.now c.deref.result.now c.fields-2.result.now c.in_ok-narrower.narrower c.fields.ensures c.in_ok-wanted.ensures c.deref.ensures.value c.fields-2.ensures c.in_ok-narrower.ensures in
    rw (same.0, same.1) (answer-same (named_fields q.arena q.schema) (query_tree q) chunks partitions fits (arena-covers q))
