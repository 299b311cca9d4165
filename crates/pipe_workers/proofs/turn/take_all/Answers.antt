use Rattle.std.proofs.Common.{◌≡◌, ◌∙◌, ◌+◌, List, ap, sym, subst, arith}
use Rattle.std.specs.List.{All}
use Rattle.pipe_aggs.specs.QueryTrees.{query_tree}
use Rattle.pipe_aggs.specs.declared.query.Query.{Query}
use Rattle.pipe_columns.specs.Row.{Row}
use Rattle.pipe_columns.specs.declared.data_type.DataType.{DataType}
use Rattle.pipe_model.specs.Output.{key_types}
use Rattle.pipe_spill.specs.KeyTypes.{AreOfTypes}
use Rattle.pipe_workers.specs.Steps.{AreRowsOfTurn, IsInTurn, taken_with}
use Rattle.pipe_workers.proofs.Answering.{on_err}
use Rattle.pipe_workers.proofs.InTurns.{turn-stopped}
use Rattle.pipe_workers.proofs.TurnEnds.{taken-all, taken-none}
use Rattle.pipe_workers.proofs.turn.take_all.Goals as goal

pub loop-row-init : goal.loop-row-init
loop-row-init g c =
    let turn = c.args.turn.now in
    record {
      taken = taken-none g.R.Naming.run c.args.shares.now.worker turn.position turn.rows c.args.table.now c.args.shares.now c.requires.begun;
      written = c.in_ok-encode_ahead.ensures;
    }

pub returns-in_err-encode_ahead-clause-err : goal.returns-in_err-encode_ahead-clause-err
returns-in_err-encode_ahead-clause-err g c =
    let r = g.R.Naming.run in
    let w = c.args.shares.now.worker in
    let turn = c.args.turn.now in
    on_err c.from_residual.result _
    (turn-stopped r w turn.position turn.rows 0 c.args.table.now c.args.shares.now c.query.ensures.takes_turns c.requires.turn (taken-none r w turn.position turn.rows c.args.table.now c.args.shares.now c.requires.begun))

pub returns-in_err-encode_ahead-2-clause-err : goal.returns-in_err-encode_ahead-2-clause-err
returns-in_err-encode_ahead-2-clause-err g c =
    let turn = c.args.turn.now in
    on_err c.from_residual-in_err-encode_ahead-2.result _
    (turn-stopped g.R.Naming.run c.args.shares.now.worker turn.position turn.rows c.loop-row.row c.loop-row.table c.loop-row.shares c.query.ensures.takes_turns c.requires.turn c.loop-row.invariant.taken)

pub take_row-requires-clause-turn : goal.take_row-requires-clause-turn
take_row-requires-clause-turn g c =
    let turn = c.args.turn.now in
    subst (λ v. AreRowsOfTurn g.R.Naming.run v turn.position turn.rows) (sym c.loop-row.invariant.taken.worker) c.requires.turn

pub take_row-requires-clause-within : goal.take_row-requires-clause-within
take_row-requires-clause-within g c =
    let r = g.R.Naming.run in
    let turn = c.args.turn.now in
    subst (λ t. IsInTurn r c.loop-row.shares.worker turn.position (taken_with r c.loop-row.shares.worker turn.position turn.rows c.loop-row.row) t c.loop-row.shares) (sym c.look_ahead.ensures)
    (subst (λ v. IsInTurn r v turn.position (taken_with r v turn.position turn.rows c.loop-row.row) c.loop-row.table c.loop-row.shares) (sym c.loop-row.invariant.taken.worker) c.loop-row.invariant.taken)

pub loop-row-preserved : goal.loop-row-preserved
loop-row-preserved g c =
    let r = g.R.Naming.run in
    let turn = c.args.turn.now in
    record {
      taken = subst (λ v. IsInTurn r v turn.position (taken_with r v turn.position turn.rows (c.loop-row.row + 1)) c.take_row.new.table c.take_row.new.shares) c.loop-row.invariant.taken.worker c.in_ok-take_row.ensures.ok;
      written = c.in_ok-encode_ahead-2.ensures;
    }

pub returns-clause-ok : goal.returns-clause-ok
returns-clause-ok g c =
    let turn = c.args.turn.now in
    taken-all g.R.Naming.run c.args.shares.now.worker turn.position turn.rows c.loop-row.row c.loop-row.table c.loop-row.shares c.requires.turn
    (omega (arith, c.len-row-end.ensures, c.loop-row-test.false)) c.loop-row.invariant.taken

pub encode_ahead-requires : goal.encode_ahead-requires
encode_ahead-requires g c =
    let types : c.key_types-types.result.now ≡ key_types (query_tree c.args.shared.now) = c.key_types-types.ensures ∙ ap (λ (q : Query). key_types (query_tree q)) c.query.ensures.is in
    subst (λ (ts : List DataType). All (λ (r : Row). AreOfTypes ts r.key) c.args.turn.now.rows) (sym types) c.requires.typed

pub encode_ahead-requires-in-loop-row : goal.encode_ahead-requires-in-loop-row
encode_ahead-requires-in-loop-row g c =
    let types : c.key_types-types.result.now ≡ key_types (query_tree c.args.shared.now) = c.key_types-types.ensures ∙ ap (λ (q : Query). key_types (query_tree q)) c.query.ensures.is in
    subst (λ (ts : List DataType). All (λ (r : Row). AreOfTypes ts r.key) c.args.turn.now.rows) (sym types) c.requires.typed

pub look_ahead-requires : goal.look_ahead-requires
look_ahead-requires g c =
    let types : c.key_types-types.result.now ≡ key_types (query_tree c.args.shared.now) = c.key_types-types.ensures ∙ ap (λ (q : Query). key_types (query_tree q)) c.query.ensures.is in
    subst (λ (ts : List DataType). All (λ (r : Row). AreOfTypes ts r.key) c.args.turn.now.rows) (sym types) c.requires.typed
