use Rattle.std.proofs.Common.{◌≡◌, ◌+◌, ◌-◌, ℕ, true, drop, get_or, sym, ap, subst, arith}
use Rattle.std.proofs.lemmas.List.{get_or_default}
use Rattle.pipe_aggs.specs.QueryTrees.{query_tree}
use Rattle.pipe_groups.specs.GroupRuns.{keep_no_text}
use Rattle.pipe_groups.specs.Shape.{Shape}
use Rattle.pipe_model.specs.Query.{QueryTree}
use Rattle.pipe_keyed.specs.TakenRows.{TookFirstRows}
use Rattle.pipe_sinks.specs.KeyRuns.{run_rows}
use Rattle.pipe_sinks.specs.declared.key_runs.KeyRun.{KeyRun}
use Rattle.pipe_keyed.proofs.TookFacts.{took-none}
use Rattle.pipe_sinks.proofs.ChunkFacts.{took-run}
use Rattle.pipe_sinks.proofs.CutFacts.{cut-end, cut-next, cut-stay, no_run}
use Rattle.pipe_sinks.proofs.ChunkRunFacts.{room-now, rows-long, shape-now}
use Rattle.pipe_sinks.proofs.key_runs.feed_runs.Goals as goal

pub loop-run-init : goal.loop-run-init
loop-run-init c =
    record { took = took-none (query_tree c.args.query.now) c.args.chunk.now.chunk_index c.args.chunk.now.frame c.args.table.now; cut = c.requires.cut }

pub feed_run-requires-clause-plain : goal.feed_run-requires-clause-plain
feed_run-requires-clause-plain c =
    subst (λ (s : Shape). keep_no_text s.prototypes s.input_types ≡ true) (sym c.loop-run.invariant.took.shape) c.requires.plain

pub feed_run-requires-clause-run : goal.feed_run-requires-clause-run
feed_run-requires-clause-run c =
    let r : KeyRun = get_or c.args.runs.now c.loop-run.run-index no_run in
    let lt = c.loop-run-test.true in
    let next = cut-next c.loop-run.table c.args.rows.now c.loop-run.row c.args.chunk.now.frame.height c.args.runs.now c.loop-run.run-index r lt (get_or_default c.args.runs.now c.loop-run.run-index no_run r lt) c.loop-run.invariant.cut in
    next.1

pub feed_run-requires-clause-at : goal.feed_run-requires-clause-at
feed_run-requires-clause-at c =
    let r : KeyRun = get_or c.args.runs.now c.loop-run.run-index no_run in
    let lt = c.loop-run-test.true in
    let next = cut-next c.loop-run.table c.args.rows.now c.loop-run.row c.args.chunk.now.frame.height c.args.runs.now c.loop-run.run-index r lt (get_or_default c.args.runs.now c.loop-run.run-index no_run r lt) c.loop-run.invariant.cut in
    next.2

pub feed_run-requires-clause-few : goal.feed_run-requires-clause-few
feed_run-requires-clause-few c =
    let r : KeyRun = get_or c.args.runs.now c.loop-run.run-index no_run in
    let lt = c.loop-run-test.true in
    let next = cut-next c.loop-run.table c.args.rows.now c.loop-run.row c.args.chunk.now.frame.height c.args.runs.now c.loop-run.run-index r lt (get_or_default c.args.runs.now c.loop-run.run-index no_run r lt) c.loop-run.invariant.cut in
    room-now c.args.query.now c.args.chunk.now c.args.rows.now c.args.table.now c.loop-run.table c.loop-run.row c.requires.takes c.loop-run.invariant.took.shape c.loop-run.invariant.took (r.end - c.loop-run.row) (omega (arith, next.1.there, rows-long c.args.query.now c.args.chunk.now c.args.rows.now c.args.table.now c.loop-run.table c.loop-run.row c.requires.takes c.loop-run.invariant.took.shape))

pub loop-run-preserved : goal.loop-run-preserved
loop-run-preserved c =
    let r : KeyRun = get_or c.args.runs.now c.loop-run.run-index no_run in
    let lt = c.loop-run-test.true in
    let next = cut-next c.loop-run.table c.args.rows.now c.loop-run.row c.args.chunk.now.frame.height c.args.runs.now c.loop-run.run-index r lt (get_or_default c.args.runs.now c.loop-run.run-index no_run r lt) c.loop-run.invariant.cut in
    let q : QueryTree = query_tree c.args.query.now in
    let n = c.loop-run.row in
    let rows = c.args.rows.now in
    let len = r.end - n in
    let sum : n + len ≡ r.end = omega (arith, next.0) in
    record {
      took = subst (λ (m : ℕ). TookFirstRows q c.args.chunk.now.chunk_index c.args.chunk.now.frame m c.args.table.now c.feed_run.new.self) sum
          (took-run q c.args.chunk.now.chunk_index c.args.chunk.now.frame n len c.args.table.now c.loop-run.table c.feed_run.new.self rows _ c.loop-run.invariant.took c.requires.takes.rows_are (omega (arith, next.1.there, rows-long c.args.query.now c.args.chunk.now c.args.rows.now c.args.table.now c.loop-run.table c.loop-run.row c.requires.takes c.loop-run.invariant.took.shape))
          (ap (λ (s : Shape). run_rows s.key_types rows n len) (shape-now c.args.query.now c.args.chunk.now c.args.rows.now c.args.table.now c.loop-run.table c.loop-run.row c.requires.takes c.loop-run.invariant.took.shape)) c.feed_run.ensures.shape c.feed_run.ensures.holds);
      cut = cut-stay c.loop-run.table c.feed_run.new.self rows r.end c.args.chunk.now.frame.height (drop (c.loop-run.run-index + 1) c.args.runs.now) c.feed_run.ensures.shape c.feed_run.ensures.stay next.3;
    }

pub returns : goal.returns
returns c =
    let all : c.loop-run.row ≡ c.args.chunk.now.frame.height = cut-end c.loop-run.table c.args.rows.now c.loop-run.row c.args.chunk.now.frame.height c.args.runs.now c.loop-run.run-index c.loop-run-test.false c.loop-run.invariant.cut in
    record { took = subst (λ (m : ℕ). TookFirstRows (query_tree c.args.query.now) c.args.chunk.now.chunk_index c.args.chunk.now.frame m c.args.table.now c.loop-run.table) all c.loop-run.invariant.took }
