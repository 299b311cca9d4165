use Rattle.std.proofs.Common.{◌≡◌, ◌-◌, ◌<◌, ◌≤◌, refl, sym, subst, arith}
use Rattle.pipe_columns.specs.Key.{code}
use Rattle.pipe_inputs.specs.ChunkRows.{row_at}
use Rattle.pipe_keyed.specs.Keyed.{IsAt}
use Rattle.pipe_groups.specs.Shape.{Shape}
use Rattle.pipe_sinks.specs.KeyRuns.{IsRun}
use Rattle.pipe_sinks.specs.declared.key_runs.KeyRun.{KeyRun}
use Rattle.pipe_sinks.proofs.CutFacts.{cut-push, cut-stay}
use Rattle.pipe_sinks.proofs.InsertFacts.{alike-then}
use Rattle.pipe_sinks.proofs.ChunkRunFacts.{is-run, row-key, rows-long, sole-now, types-now}
use Rattle.pipe_sinks.proofs.key_runs.cover_runs.Goals as goal

pub loop-row-init : goal.loop-row-init
loop-row-init c =
    record { within = omega arith; alike = record { shape = refl; holds = λ rows h. h }; cut = rw c.requires.none refl }

pub cover-requires-clause-types : goal.cover-requires-clause-types
cover-requires-clause-types c =
    types-now c.args.query.now c.args.chunk.now c.args.rows.now c.args.table.now c.loop-row.table c.loop-row.row c.requires.takes c.loop-row.invariant.alike.shape _ c.key_types-types.ensures

pub cover-requires-clause-sole : goal.cover-requires-clause-sole
cover-requires-clause-sole c =
    sole-now c.args.query.now c.args.chunk.now c.args.rows.now c.args.table.now c.loop-row.table c.loop-row.row c.requires.takes c.loop-row.invariant.alike.shape

pub cover-requires-clause-there : goal.cover-requires-clause-there
cover-requires-clause-there c =
    let lt : c.loop-row.row < c.args.chunk.now.frame.height = omega (arith, c.height-height.ensures.height, c.loop-row-test.true) in
    let within : c.run_end-end.result ≤ c.args.chunk.now.frame.height = omega (arith, c.run_end-end.ensures.within, c.height-height.ensures.height) in
    omega (arith, lt, rows-long c.args.query.now c.args.chunk.now c.args.rows.now c.args.table.now c.loop-row.table c.loop-row.row c.requires.takes c.loop-row.invariant.alike.shape)

pub cover-requires-clause-key : goal.cover-requires-clause-key
cover-requires-clause-key c =
    let lt : c.loop-row.row < c.args.chunk.now.frame.height = omega (arith, c.height-height.ensures.height, c.loop-row-test.true) in
    let within : c.run_end-end.result ≤ c.args.chunk.now.frame.height = omega (arith, c.run_end-end.ensures.within, c.height-height.ensures.height) in
    row-key c.args.query.now c.args.chunk.now c.args.rows.now c.args.table.now c.loop-row.table c.loop-row.row c.requires.takes c.loop-row.invariant.alike.shape lt

pub loop-row-preserved : goal.loop-row-preserved
loop-row-preserved c =
    let lt : c.loop-row.row < c.args.chunk.now.frame.height = omega (arith, c.height-height.ensures.height, c.loop-row-test.true) in
    let within : c.run_end-end.result ≤ c.args.chunk.now.frame.height = omega (arith, c.run_end-end.ensures.within, c.height-height.ensures.height) in
    let n = c.loop-row.row in
    let end = c.run_end-end.result in
    let rows = c.args.rows.now in
    let one : KeyRun = record { group = c.in_ok-group.group; end = end } in
    let shape = c.cover.ensures.alike.shape in
    let run = is-run c.args.query.now c.args.chunk.now c.args.rows.now c.args.table.now c.loop-row.table c.loop-row.row c.requires.takes c.loop-row.invariant.alike.shape c.args.keys.now c.requires.keys end (end - n) c.run_end-end.ensures.some within (omega (arith, c.run_end-end.ensures.some)) c.run_end-end.ensures.same in
    let before = cut-stay c.loop-row.table c.cover.new.self rows 0 n c.loop-row.runs.items shape c.cover.ensures.stay c.loop-row.invariant.cut in
    let at = subst (λ (s : Shape). IsAt c.cover.new.self.groups (code s.key_types (row_at rows n).key) c.in_ok-group.group) (sym shape) c.in_ok-group.ensures.at in
    record {
      within = within;
      alike = alike-then c.args.table.now c.loop-row.table c.cover.new.self c.loop-row.invariant.alike c.cover.ensures.alike;
      cut = rw c.in_ok-push.ensures.items (cut-push c.cover.new.self rows 0 n c.loop-row.runs.items one before c.run_end-end.ensures.some (subst (λ (s : Shape). IsRun s rows n (end - n)) (sym shape) run) at);
    }

pub returns-clause-cut : goal.returns-clause-cut
returns-clause-cut c =
    let all : c.loop-row.row ≡ c.args.chunk.now.frame.height = omega (arith, c.height-height.ensures.height, c.loop-row-test.false, c.loop-row.invariant.within) in
    rw (← all) c.loop-row.invariant.cut

pub returns-clause-alike : goal.returns-clause-alike
returns-clause-alike c =
    c.loop-row.invariant.alike

pub returns-in_err-group-clause-alike : goal.returns-in_err-group-clause-alike
returns-in_err-group-clause-alike c =
    alike-then c.args.table.now c.loop-row.table c.cover.new.self c.loop-row.invariant.alike c.cover.ensures.alike

pub returns-in_err-push-clause-alike : goal.returns-in_err-push-clause-alike
returns-in_err-push-clause-alike c =
    alike-then c.args.table.now c.loop-row.table c.cover.new.self c.loop-row.invariant.alike c.cover.ensures.alike
