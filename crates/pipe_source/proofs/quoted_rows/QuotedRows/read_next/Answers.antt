use Rattle.std.proofs.Common.{◌∙◌}
use Rattle.std.proofs.lemmas.List.{get_or_default}
use Rattle.csv.specs.Records.{fields_of}
use Rattle.pipe_source.proofs.QuotedFacts.{gives-none, gives-some, places-next, places-none, some-left, takes-next}
use Rattle.pipe_source.proofs.quoted_rows.QuotedRows.read_next.Goals as goal
use Rattle.pipe_source.proofs.quoted_rows.QuotedRows.read_next.Goals.{in-Ok-true, in-Err}

pub unreachable-requires : goal.unreachable-requires
unreachable-requires c = some-left c.args.self.now.places.items c.args.self.now.next c.requires.some (rw c.in_default.is at c.requires.ahead.1)

pub unreachable-requires-in-Ok-false : goal.unreachable-requires-in-Ok-false
unreachable-requires-in-Ok-false c =
    let a = rw c.in-Some.is at c.requires.ahead.1 in
    let r = rw c.in-Ok-false.field-0-test at (c.in-Ok-false.ensures.reads a.1.plain a.1.ready) in
    let none = gives-none _ c.in-Some.reader c.read_byte_record.new.self a.0 (fields_of c.read_byte_record.new.row) a.1 r in
    places-none c.requires.ahead.0 c.args.self.now.places.items c.args.self.now.next a.0 c.requires.some a.2 none

pub returns-clause-taken : goal.returns-clause-taken
returns-clause-taken c =
    let q = c.args.self.now in
    elim c.match-read_byte_record.branch [
      | in-Ok-true w ↦
          rw w.result-is (λ text ahead start other n.
          let a = rw c.in-Some.is at ahead in
          let r = rw w.in-Ok-true.field-0-test at (w.in-Ok-true.ensures.reads a.1.plain a.1.ready) in
          let some = gives-some _ c.in-Some.reader c.read_byte_record.new.self a.0 (fields_of c.read_byte_record.new.row) a.1 r (w.in-Ok-true.ensures.reads_on w.in-Ok-true.field-0-test) in
          let here = w.index.ensures ∙ get_or_default q.places.items q.next w.index.result.now (0, 0) c.requires.some in
          takes-next text q.places.items q.next a.0 some.0 (fields_of c.read_byte_record.new.row) start other w.index.result.now c.requires.some a.2 some.1 here n.1)
      | in-Err w ↦ rw w.result-is tt
    ]

pub returns-clause-ahead : goal.returns-clause-ahead
returns-clause-ahead c =
    let q = c.args.self.now in
    elim c.match-read_byte_record.branch [
      | in-Ok-true w ↦
          rw (w.result-is, w.self-is) (λ text ahead.
          let a = rw c.in-Some.is at ahead in
          let r = rw w.in-Ok-true.field-0-test at (w.in-Ok-true.ensures.reads a.1.plain a.1.ready) in
          let some = gives-some _ c.in-Some.reader c.read_byte_record.new.self a.0 (fields_of c.read_byte_record.new.row) a.1 r (w.in-Ok-true.ensures.reads_on w.in-Ok-true.field-0-test) in
          (some.0, some.2, (places-next text q.places.items q.next a.0 some.0 (fields_of c.read_byte_record.new.row) c.requires.some a.2 some.1).1))
      | in-Err w ↦ rw w.result-is tt
    ]
