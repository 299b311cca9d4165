use Rattle.std.proofs.Common.{◌≡◌, ◌≤◌, ◌∙◌, ◌+◌, ◌-◌, [], arith, length, refl, rules, take, ℕ, List, Some}
use Rattle.pipe_columns.specs.declared.schema.Field.{Field}
use Rattle.pipe_scan.specs.Records.{records_at}
use Rattle.pipe_source.specs.Layout.{laid}
use Rattle.pipe_source.specs.Rows.{IsStart}
use Rattle.pipe_source.proofs.LaidFacts.{checked-laid}
use Rattle.pipe_source.proofs.NamedReads.{checked-plain}
use Rattle.pipe_source.proofs.RowsLeft.{first-stops, rows-over, rows-start, same-room, take-none}
use Rattle.pipe_source.proofs.named_check.check_named_rows.Goals as goal

pub loop-row-init : goal.loop-row-init
loop-row-init c =
    let none : c.args.most - 0 ≡ c.args.most = omega arith in record {
      checked = record {
        done = [];
        rows = rw (none, c.new-stops.ensures) (rows-start c.args.file c.args.columns.now (take c.args.most (laid (Some c.args.layout.now) (records_at c.args.text.now c.args.at))));
        next = rw c.new-stops.ensures refl;
      };
      few = omega arith;
      marked = search rules;
      room = search rules;
      size = c.new-starts.ensures.size;
      noted = c.new-starts.ensures.noted c.args.text.now c.args.at;
    }

pub returns-in-Err-clause-stop : goal.returns-in-Err-clause-stop
returns-in-Err-clause-stop c =
    let inv = c.loop-row.invariant in
    first-stops c.args.file c.args.columns.now _ c.args.most c.loop-row.row inv.checked.done (laid (Some c.args.layout.now) (records_at c.args.text.now c.loop-row.stops.cursor)) c.in-Err.error inv.checked.rows c.loop-row-test.true c.in-Err.ensures.stop

pub loop-row-preserved : goal.loop-row-preserved
loop-row-preserved c =
    let inv = c.loop-row.invariant in
    let text : List ℕ = c.args.text.now in
    let columns : List Field = c.args.columns.now in
    let row : ℕ = c.loop-row.row in
    let cursor : ℕ = c.loop-row.stops.cursor in
    let start : IsStart text c.args.at row c.cursor-start.result = rw c.cursor-start.ensures (record { behind = inv.checked.next; within = omega (arith, inv.marked.within) }) in
    let reads = rw c.in-Ok-true.field-0-test at c.in-Ok-true.ensures.reads in
    let next : ℕ = c.check_named_row-found.new.stops.cursor in
    let one = checked-laid c.args.layout.now c.args.file columns text c.args.at c.args.most row cursor next inv.checked c.loop-row-test.true reads in
    let over : ℕ = c.skip_plain_rows-over.result in
    let few : row + 1 + over ≤ c.args.most = omega (arith, c.skip_plain_rows-over.ensures.few, c.min.ensures, c.loop-row-test.true) in
    let plain = rw c.deref.ensures.value at c.skip_plain_rows-over.ensures.rows in
    let noted = c.in_ok-note-in-Ok-true.ensures.noted text c.args.at row inv.noted start in record {
      checked = checked-plain over c.args.layout.now c.args.file columns text c.args.at c.args.most (row + 1) next c.skip_plain_rows-over.new.stops.cursor c.is_known_ascii-is_ascii.result c.in_ok-numbers.numbers.items one few c.is_known_ascii-is_ascii.ensures c.requires.fit c.in_ok-numbers.ensures plain;
      few = few;
      marked = c.skip_plain_rows-over.ensures.marked;
      room = same-room c.loop-row.ends.len c.args.layout.now.count c.check_named_row-found.new.ends c.loop-row.ends.items c.check_named_row-found.ensures.width inv.room (omega (arith, c.loop-row.ends.ok.0));
      size = c.pass.ensures.size ∙ c.note.ensures.size ∙ inv.size;
      noted = c.pass.ensures.noted text c.args.at (row + 1) noted;
    }

pub returns-clause-reads : goal.returns-clause-reads
returns-clause-reads c =
    let inv = c.loop-row.invariant in (
      inv.checked.done,
      rows-over c.args.file c.args.columns.now _ c.loop-row.row inv.checked.done _ inv.checked.rows (take-none c.args.most c.loop-row.row (laid (Some c.args.layout.now) (records_at c.args.text.now c.loop-row.stops.cursor)) (omega (arith, c.loop-row-test.false))),
      omega (arith, inv.checked.rows.count, inv.few, c.loop-row-test.false),
    )
