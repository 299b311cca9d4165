use Rattle.std.proofs.Common.{◌≡◌, ◌∙◌, ◌-◌, ◌+◌, ◌++◌, [], ◌∷◌, List, ℕ, Some, arith, rules, take, length, refl, sym, ap, subst}
use Rattle.pipe_columns.specs.declared.any_value.AnyValue.{AnyValue}
use Rattle.pipe_csv.specs.Columns.{DoHold, values_from, with_row}
use Rattle.pipe_csv.proofs.HoldFacts.{rows-hold, rows-push}
use Rattle.pipe_csv.proofs.PieceFacts.{values-none, values-push}
use Rattle.pipe_csv.proofs.ReadFacts.{length-row, row-fits}
use Rattle.pipe_scan.specs.Records.{records_at}
use Rattle.pipe_source.specs.Layout.{laid, picked}
use Rattle.pipe_source.proofs.LaidFacts.{laid-next}
use Rattle.pipe_source.proofs.RowsLeft.{first-stops, fresh-width, next-reads, only-memory, rows-all, rows-more, rows-start, same-room, take-first}
use Rattle.pipe_source.proofs.named_push.push_named_rows.Goals as goal

pub loop-row-init : goal.loop-row-init
loop-row-init c =
    let start = rows-start 1 c.args.columns.now (take c.args.count (laid (Some c.args.layout.now) (records_at c.args.text.now c.args.at))) in
    let none : c.args.count - 0 ≡ c.args.count = omega arith in record {
      done = [];
      rows = rw (none, c.new-stops.ensures) start;
      marked = search rules;
      ahead = c.new-quoted.ensures c.args.text.now;
      room = search rules;
      fills = c.requires.empty ∙ sym (values-none 0 c.args.columns.now);
      fit = tt;
      width = fresh-width c.args.fills.now (length c.args.columns.now) c.requires.empty;
    }

pub returns-in-Err-clause-memory : goal.returns-in-Err-clause-memory
returns-in-Err-clause-memory c =
    let inv = c.loop-row.invariant in
    let stops = first-stops 1 c.args.columns.now _ c.args.count c.loop-row.row inv.done (laid (Some c.args.layout.now) (records_at c.args.text.now c.loop-row.stops.cursor)) c.in-Err.error inv.rows c.loop-row-test.true c.in-Err.ensures.stop in
    only-memory c.in-Err.error _ c.requires.rows.0 c.requires.rows.1.read stops

pub loop-row-preserved : goal.loop-row-preserved
loop-row-preserved c =
    let inv = c.loop-row.invariant in
    let cs = c.args.columns.now in
    let l = c.args.layout.now in
    let pushed = rw c.in-Ok-true.field-0-test at c.in-Ok-true.ensures.pushed in
    let values : List AnyValue = pushed.0 in
    let r : List (List ℕ) = pushed.1.0 in
    let recs = records_at c.args.text.now c.loop-row.stops.cursor in
    let more = records_at c.args.text.now c.push_named_row-found.new.stops.cursor in
    let first = take-first c.args.count c.loop-row.row (laid (Some l) recs) (laid (Some l) more) (picked l r) c.loop-row-test.true (laid-next l recs more r pushed.1.1) in record {
      done = inv.done ++ (values ∷ []);
      rows = rows-more 1 cs _ c.loop-row.row inv.done _ _ (picked l r) values inv.rows first pushed.1.2;
      marked = c.push_named_row-found.ensures.marked;
      ahead = c.in-Ok-true.ensures.ahead;
      room = same-room c.loop-row.ends.len l.count c.push_named_row-found.new.ends c.loop-row.ends.items c.push_named_row-found.ensures.width inv.room (omega (arith, c.loop-row.ends.ok.0));
      fills = pushed.2 ∙ ap (with_row values) inv.fills ∙ values-push cs inv.done values (length-row 1 (c.loop-row.row + 1) cs (picked l r) values _ refl pushed.1.2);
      fit = rows-push 0 cs inv.done values inv.fit (row-fits 1 (c.loop-row.row + 1) cs (picked l r) values _ refl pushed.1.2);
      width = c.push_named_row-found.ensures.columns;
    }

pub returns-clause-hold : goal.returns-clause-hold
returns-clause-hold c =
    let inv = c.loop-row.invariant in
    let P : List (List AnyValue) → Type 0 = λ t. DoHold c.args.count c.args.columns.now t in
    let Q : ℕ → Type 0 = λ n. DoHold n c.args.columns.now (values_from 0 c.args.columns.now inv.done) in
    let all : length inv.done ≡ c.args.count = rows-all 1 c.args.columns.now _ c.args.count c.loop-row.row inv.done _ inv.rows (omega arith) (omega arith) in
    subst P (sym inv.fills) (subst Q all (rows-hold 0 c.args.columns.now inv.done inv.fit))

pub push_named_row-found-requires-clause-reads : goal.push_named_row-found-requires-clause-reads
push_named_row-found-requires-clause-reads c =
    let inv = c.loop-row.invariant in
    next-reads 1 c.args.columns.now _ c.requires.rows.0 inv.done c.args.count c.loop-row.row (laid (Some c.args.layout.now) (records_at c.args.text.now c.loop-row.stops.cursor)) inv.rows c.requires.rows.1.read c.loop-row-test.true
