use Rattle.std.proofs.Common.{◌∙◌, arith}
use Rattle.csv.specs.Records.{fields_of}
use Rattle.pipe_csv.proofs.RowFacts.{get-reads, get-some, header-more, header-step, header-stop, header-width}
use Rattle.pipe_csv.proofs.header.is_header.Goals as goal

pub returns-then-len-fields : goal.returns-then-len-fields
returns-then-len-fields c = header-width c.args.fields.now (fields_of c.args.entry.now) (λ e. c.if-len-fields.true (c.len.ensures ∙ e))

pub unwrap-requires : goal.unwrap-requires
unwrap-requires c = get-some (fields_of c.args.entry.now) c.loop-i.i c.get.result (omega arith) c.get.ensures.value

pub returns-then-ne : goal.returns-then-ne
returns-then-ne c =
    let ts = fields_of c.args.entry.now in
    let reads = get-reads ts c.loop-i.i c.get.result c.unwrap.result (omega arith) c.get.ensures.value c.unwrap.ensures in
    let step = header-step c.args.fields.now ts c.loop-i.i c.index-fields-i.result c.unwrap.result.now (omega arith) (omega arith) c.index-fields-i.is reads in
    header-stop c.as_bytes.result.now c.index-fields-i.result.name c.unwrap.result.now c.ne.result _ _ _ c.loop-i.invariant step c.as_bytes.ensures.bytes c.ne.ensures c.if-ne.true

pub loop-i-preserved : goal.loop-i-preserved
loop-i-preserved c =
    let ts = fields_of c.args.entry.now in
    let reads = get-reads ts c.loop-i.i c.get.result c.unwrap.result (omega arith) c.get.ensures.value c.unwrap.ensures in
    let step = header-step c.args.fields.now ts c.loop-i.i c.index-fields-i.result c.unwrap.result.now (omega arith) (omega arith) c.index-fields-i.is reads in
    header-more c.as_bytes.result.now c.index-fields-i.result.name c.unwrap.result.now c.ne.result _ _ _ c.loop-i.invariant step c.as_bytes.ensures.bytes c.ne.ensures c.if-ne.false
