use Rattle.std.proofs.Common.{◌++◌, List, ℕ, [], ◌∷◌, arith, rules}
use Rattle.csv.specs.Records.{fields_of}
use Rattle.pipe_csv.proofs.RowFacts.{get-reads, get-some}
use Rattle.pipe_source.proofs.FieldsLeft.{fields-more, fields-stop, no-value, text-here, value-of}
use Rattle.pipe_source.proofs.row_check.check_record.Goals as goal

pub unwrap-requires : goal.unwrap-requires
unwrap-requires c = get-some (fields_of c.args.entry.now) c.loop-i.i c.get.result (omega arith) c.get.ensures.value

pub returns-then-not-does_read-clause-stop : goal.returns-then-not-does_read-clause-stop
returns-then-not-does_read-clause-stop c =
    let inv = c.loop-i.invariant in
    let ts : List (List ℕ) = fields_of c.args.entry.now in
    let reads = get-reads ts c.loop-i.i c.get.result c.unwrap.result (omega arith) c.get.ensures.value c.unwrap.ensures in
    fields-stop c.args.file c.args.row c.args.fields.now _ c.loop-i.i inv.0 _ _ c.index-fields-i.result c.unwrap.result.now inv.1 (omega arith) c.index-fields-i.is (text-here ts c.loop-i.i c.unwrap.result.now (omega arith) reads) (no-value _ c.does_read.result c.does_read.ensures (search rules))

pub loop-i-preserved : goal.loop-i-preserved
loop-i-preserved c =
    let inv = c.loop-i.invariant in
    let ts : List (List ℕ) = fields_of c.args.entry.now in
    let reads = get-reads ts c.loop-i.i c.get.result c.unwrap.result (omega arith) c.get.ensures.value c.unwrap.ensures in
    let value = value-of _ c.does_read.result c.does_read.ensures (search rules) in (
      inv.0 ++ (value.0 ∷ []),
      fields-more c.args.file c.args.row c.args.fields.now _ c.loop-i.i inv.0 _ _ c.index-fields-i.result c.unwrap.result.now value.0 inv.1 (omega arith) c.index-fields-i.is (text-here ts c.loop-i.i c.unwrap.result.now (omega arith) reads) value.1,
    )
