use Rattle.std.proofs.Common.{◌≡◌, ◌∙◌, ap, sym, subst, arith}
use Rattle.std.proofs.lemmas.Option.{get_or_from_slice_get, slice_get_within}
use Rattle.pipe_columns.specs.Frame.{FitsSchema}
use Rattle.pipe_columns.specs.declared.data_chunk.DataChunk.{DataChunk}
use Rattle.pipe_aggs.specs.QueryTrees.{query_tree}
use Rattle.pipe_aggs.specs.declared.query.Query.{Query}
use Rattle.pipe_model.specs.Query.{QueryTree}
use Rattle.pipe_model.specs.Rows.{chunk_rows}
use Rattle.pipe_workers.proofs.Answering.{on_err}
use Rattle.pipe_workers.proofs.TurnEnds.{rows-of-turn, turn-begins, turn-unbegun}
use Rattle.pipe_workers.proofs.turn.take_rows.Goals as goal

pub returns-in_err-rows-clause-err : goal.returns-in_err-rows-clause-err
returns-in_err-rows-clause-err g c =
    on_err c.from_residual.result _ (turn-unbegun g.R.Naming.run c.args.shares.now.worker c.args.position c.args.chunk.now c.args.table.now c.args.shares.now c.query-query.ensures.takes_turns c.requires.turn)

pub take_all-requires-clause-turn : goal.take_all-requires-clause-turn
take_all-requires-clause-turn g c =
    let r = g.R.Naming.run in
    let i = c.args.position in
    let frame = c.args.chunk.now.frame in
    let rows : c.in_ok-rows.rows ≡ chunk_rows r.query i frame =
    c.in_ok-rows.ensures.rows ∙ ap (λ (q : Query). chunk_rows (query_tree q) i frame) c.query-query.ensures.is ∙ ap (λ (q : QueryTree). chunk_rows q i frame) (sym c.query-query.ensures.run) in
    rows-of-turn r c.args.shares.now.worker i c.args.chunk.now c.args.table.now c.args.shares.now c.in_ok-rows.rows c.requires.turn rows

pub take_all-requires-clause-begun : goal.take_all-requires-clause-begun
take_all-requires-clause-begun g c =
    let r = g.R.Naming.run in
    let within = slice_get_within r.chunks c.args.position c.args.chunk.now c.requires.turn.at in
    turn-begins r c.args.shares.now.worker c.args.position c.args.table.now c.args.shares.now (omega (arith, within)) c.requires.turn.after

-- a chunk's position has a number
pub overflow_cast-position : goal.overflow_cast-position
overflow_cast-position g c =
    let within = slice_get_within g.R.Naming.run.chunks c.args.position c.args.chunk.now c.requires.turn.at in
    omega (arith, within, c.query-query.ensures.takes_turns.chunks.number)

-- the chunk's columns are those of the query
pub new-requires : goal.new-requires
new-requires g c =
    let r = g.R.Naming.run in
    let i = c.args.position in
    let chunk = c.args.chunk.now in
    let within = slice_get_within r.chunks i chunk c.requires.turn.at in
    let fits : FitsSchema r.query.schema chunk.frame = subst (λ (x : DataChunk). FitsSchema r.query.schema x.frame) (get_or_from_slice_get r.chunks i chunk chunk c.requires.turn.at) (c.query-query.ensures.takes_turns.chunks.columns i chunk within) in
    fits ∙ ap (λ (q : QueryTree). q.schema) c.query-query.ensures.run ∙ ap (λ (q : Query). q.schema) (sym c.query-query.ensures.is)
