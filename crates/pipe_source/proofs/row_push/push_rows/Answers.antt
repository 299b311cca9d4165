use Rattle.std.proofs.Common.{◌≡◌, ◌∙◌, ◌-◌, ◌+◌, ◌++◌, [], ◌∷◌, List, ℕ, arith, rules, take, length, refl, sym, ap, subst}
use Rattle.pipe_columns.specs.declared.any_value.AnyValue.{AnyValue}
use Rattle.pipe_csv.specs.Columns.{DoHold, values_from, with_row}
use Rattle.pipe_csv.proofs.HoldFacts.{rows-hold, rows-push}
use Rattle.pipe_csv.proofs.PieceFacts.{values-push}
use Rattle.pipe_csv.proofs.ReadFacts.{length-row, row-fits}
use Rattle.pipe_scan.specs.Records.{records_at}
use Rattle.narrow_columns.specs.Wanted.{chosen}
use Rattle.pipe_source.proofs.ChosenColumns.{chosen-hold, chosen-none, chosen-row}
use Rattle.pipe_source.proofs.RowsLeft.{first-stops, next-reads, fresh-width, only-memory, rows-all, rows-more, rows-start, same-room, take-first}
use Rattle.pipe_source.proofs.row_push.push_rows.Goals as goal

pub loop-row-init : goal.loop-row-init
loop-row-init c =
    let start = rows-start 1 c.args.fields.now (take c.args.count (records_at c.args.text.now c.args.at)) in
    let none : c.args.count - 0 ≡ c.args.count = omega arith in record {
      done = [];
      rows = rw (none, c.new-stops.ensures) start;
      marked = search rules;
      ahead = c.new-quoted.ensures c.args.text.now;
      room = search rules;
      columns = c.requires.empty ∙ chosen-none c.args.wanted.now c.args.fields.now;
      fit = tt;
      width = fresh-width c.args.columns.now (length (chosen c.args.wanted.now c.args.fields.now)) c.requires.empty;
    }

pub returns-in-Err-clause-memory : goal.returns-in-Err-clause-memory
returns-in-Err-clause-memory c =
    let inv = c.loop-row.invariant in
    let stops = first-stops 1 c.args.fields.now _ c.args.count c.loop-row.row inv.done (records_at c.args.text.now c.loop-row.stops.cursor) c.in-Err.error inv.rows c.loop-row-test.true c.in-Err.ensures.stop in
    only-memory c.in-Err.error _ c.requires.rows.0 c.requires.rows.1.read stops

pub loop-row-preserved : goal.loop-row-preserved
loop-row-preserved c =
    let inv = c.loop-row.invariant in
    let fs = c.args.fields.now in
    let pushed = rw c.in-Ok-true.field-0-test at c.in-Ok-true.ensures.pushed in
    let values : List AnyValue = pushed.0 in
    let r : List (List ℕ) = pushed.1.0 in
    let recs = records_at c.args.text.now c.loop-row.stops.cursor in
    let more = records_at c.args.text.now c.push_row-found.new.stops.cursor in
    let first = take-first c.args.count c.loop-row.row recs more r c.loop-row-test.true pushed.1.1 in record {
      done = inv.done ++ (values ∷ []);
      rows = rows-more 1 fs _ c.loop-row.row inv.done _ _ r values inv.rows first pushed.1.2;
      marked = c.push_row-found.ensures.marked;
      ahead = c.in-Ok-true.ensures.ahead;
      room = same-room c.loop-row.ends.len (length fs) c.push_row-found.new.ends c.loop-row.ends.items c.push_row-found.ensures.width inv.room (omega (arith, c.loop-row.ends.ok.0));
      columns = pushed.2 ∙ ap (with_row (chosen c.args.wanted.now values)) inv.columns ∙ chosen-row c.args.wanted.now values (values_from 0 fs inv.done) ∙ ap (chosen c.args.wanted.now) (values-push fs inv.done values (length-row 1 (c.loop-row.row + 1) fs r values _ refl pushed.1.2));
      fit = rows-push 0 fs inv.done values inv.fit (row-fits 1 (c.loop-row.row + 1) fs r values _ refl pushed.1.2);
      width = c.push_row-found.ensures.columns;
    }

pub returns-clause-hold : goal.returns-clause-hold
returns-clause-hold c =
    let inv = c.loop-row.invariant in
    let ws = c.args.wanted.now in
    let P : List (List AnyValue) → Type 0 = λ t. DoHold c.args.count (chosen ws c.args.fields.now) t in
    let Q : ℕ → Type 0 = λ n. DoHold n c.args.fields.now (values_from 0 c.args.fields.now inv.done) in
    let all : length inv.done ≡ c.args.count = rows-all 1 c.args.fields.now _ c.args.count c.loop-row.row inv.done _ inv.rows (omega arith) (omega arith) in
    subst P (sym inv.columns) (chosen-hold c.args.count ws c.args.fields.now (values_from 0 c.args.fields.now inv.done) (subst Q all (rows-hold 0 c.args.fields.now inv.done inv.fit)))

pub push_row-found-requires-clause-reads : goal.push_row-found-requires-clause-reads
push_row-found-requires-clause-reads c =
    let inv = c.loop-row.invariant in
    next-reads 1 c.args.fields.now _ c.requires.rows.0 inv.done c.args.count c.loop-row.row (records_at c.args.text.now c.loop-row.stops.cursor) inv.rows c.requires.rows.1.read c.loop-row-test.true
