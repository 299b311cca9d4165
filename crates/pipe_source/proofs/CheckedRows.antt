-- Rows of a text that were looked over, one by one and many at once.
use Rattle.std.proofs.Common.{◌≡◌, ◌≤◌, ◌<◌, ◌+◌, ◌-◌, ◌++◌, ℕ, zero, suc, List, [], ◌∷◌, Bool, true, length, take, drop, sym, arith}
use Rattle.std.specs.Str.{IsAscii}
use Rattle.pipe_columns.specs.declared.any_value.AnyValue.{AnyValue}
use Rattle.pipe_columns.specs.declared.schema.Field.{Field}
use Rattle.pipe_csv.specs.CsvRows.{read_rows}
use Rattle.pipe_scan.specs.Plain.{ArePlainRows}
use Rattle.pipe_scan.specs.Records.{records_at}
use Rattle.pipe_source.specs.Known.{AreKnown}
use Rattle.pipe_source.specs.Rows.{ChecksRow}
use Rattle.pipe_source.proofs.PlainReads.{length-known, plain-reads}
use Rattle.pipe_source.proofs.RowsLeft.{RowsLeft, drop-next, rows-more, take-first}

-- the first rows of a text read, and the rest of its records stand from a place on
pub record Checked (file : ℕ) (fs : List Field) (text : List ℕ) (at most row cursor : ℕ) : Type 0 where
  pub done : List (List AnyValue)
  pub rows : RowsLeft file fs (read_rows file 1 fs (take most (records_at text at))) row done (take (most - row) (records_at text cursor))
  pub next : records_at text cursor ≡ drop row (records_at text at)

-- one row more
pub checked-one : (file : ℕ) (fs : List Field) (text : List ℕ) (at most row cursor next : ℕ) → Checked file fs text at most row cursor → row < most → ChecksRow file (row + 1) fs text cursor next true → Checked file fs text at most (row + 1) next
checked-one file fs text at most row cursor next d l r =
    let recs = records_at text cursor in
    let more = records_at text next in
    let first = take-first most row recs more r.1.0 l r.1.1 in record {
      done = d.done ++ (r.0 ∷ []);
      rows = rows-more file fs _ row d.done _ _ r.1.0 r.0 d.rows first r.1.2;
      next = drop-next row (records_at text at) recs more r.1.0 d.next r.1.1;
    }

-- so many plain rows more
pub checked-many : (count file : ℕ) (fs : List Field) (text : List ℕ) (at most row cursor next : ℕ) (is_ascii : Bool) (numbers : List Bool) → Checked file fs text at most row cursor → row + count ≤ most → (is_ascii ≡ true → IsAscii text) → (0 < length numbers → AreKnown is_ascii numbers fs)
    → ArePlainRows text numbers cursor next count → Checked file fs text at most (row + count) next
checked-many zero file fs text at most row cursor next is_ascii numbers d l a k p = let e : row + 0 ≡ row = omega arith in rw (e, sym p) d
checked-many (suc count) file fs text at most row cursor next is_ascii numbers d l a k p =
    let e : row + suc count ≡ row + count + 1 = omega arith in
    let before = checked-many count file fs text at most row cursor p.0 is_ascii numbers d (omega (arith, l)) a k p.3 in
    let known = k p.4.some in
    let read = plain-reads file (row + count + 1) is_ascii numbers fs text p.0 next p.1 p.2 a (length-known is_ascii numbers fs known) known p.4 in
    rw e (checked-one file fs text at most (row + count) p.0 next before (omega (arith, l)) read)
