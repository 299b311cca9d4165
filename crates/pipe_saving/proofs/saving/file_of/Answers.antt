use Rattle.std.proofs.Common.{◌≡◌, ◌∙◌, ◌+◌, List, length, sym, subst, arith}
use Rattle.std.proofs.lemmas.List.{length-map}
use Rattle.pipe_aggs.specs.QueryTrees.{query_tree}
use Rattle.pipe_columns.specs.declared.data_chunk.DataChunk.{DataChunk}
use Rattle.pipe_model.specs.Rows.{rows_from}
use Rattle.pipe_saving.proofs.SaveFacts.{extents-all, file-fair, file-is, marked}
use Rattle.pipe_saving.proofs.StateFacts.{state-of}
use Rattle.pipe_states.specs.Fair.{IsStateOf}
use Rattle.pipe_states.specs.States.{state_rows}
use Rattle.pipe_saving.proofs.saving.file_of.Goals as goal

pub into_rows-requires : goal.into_rows-requires
into_rows-requires c = extents-all (query_tree c.args.query.now) c.args.first (marked c.args.taken.now) c.args.groups.table c.args.groups.extents.items c.requires

pub new-requires : goal.new-requires
new-requires c =
    let x = c.args.query.now in
    let rows : c.in_ok-rows.rows.items ≡ state_rows (query_tree x) (rows_from (query_tree x) c.args.first (marked c.args.taken.now)) =
    c.in_ok-rows.ensures x c.args.first (marked c.args.taken.now) c.query-known.ensures.sound c.query-known.ensures.groupable c.requires in
    file-fair (query_tree x) c.args.first (marked c.args.taken.now) _ c.in_ok-rows.rows.items c.requires.few
    (omega (arith, length-map c.args.taken.now (λ s. s.value))) rows

pub returns-clause-of_query : goal.returns-clause-of_query
returns-clause-of_query c =
    let x = c.args.query.now in
    let taken : List DataChunk = marked c.args.taken.now in
    let rows : c.in_ok-rows.rows.items ≡ state_rows (query_tree x) (rows_from (query_tree x) c.args.first taken) =
    c.in_ok-rows.ensures x c.args.first taken c.query-known.ensures.sound c.query-known.ensures.groupable c.requires in
    let end : c.args.first + length c.args.taken.now ≡ c.args.first + length taken = omega (arith, length-map c.args.taken.now (λ s. s.value)) in
    let is = file-is (query_tree x) c.args.first taken (c.args.first + length c.args.taken.now) c.in_ok-rows.rows.items end rows in
    subst (IsStateOf (query_tree x)) (sym (c.new.ensures ∙ is)) (state-of x c.args.first taken c.query-known.ensures.sound c.query-known.ensures.groupable c.requires.few c.requires.fit c.requires.typed)
