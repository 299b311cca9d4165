use Rattle.std.proofs.Common.{◌≡◌, ◌∙◌, List, ℕ, IfErr, IfOk, Ok, length, take, sym, subst}
use Rattle.pipe_columns.specs.declared.any_value.AnyValue.{AnyValue}
use Rattle.pipe_csv.specs.CsvError.{StopsBy}
use Rattle.pipe_csv.specs.CsvRows.{read_row}
use Rattle.pipe_scan.specs.Records.{cut}
use Rattle.pipe_source.proofs.FieldsLeft.{length-cut, length-front}
use Rattle.pipe_source.proofs.LaidFacts.{picked-other, picked-plain}
use Rattle.pipe_source.proofs.named_check.check_named_plain.Goals as goal

pub returns-then-count-layout-clause-stop : goal.returns-then-count-layout-clause-stop
returns-then-count-layout-clause-stop c =
    let first : List ℕ = take c.args.count c.args.ends.now in
    let many : length (cut c.args.text.now c.args.start first) ≡ c.args.count = length-cut c.args.text.now c.args.start first ∙ length-front c.args.count c.args.ends.now c.requires.few in
    picked-other c.args.file c.args.row c.args.columns.now c.args.layout.now (cut c.args.text.now c.args.start first) c.requires.fit (λ e. c.if-count-layout.true (sym many ∙ e))

pub returns-clause-reads : goal.returns-clause-reads
returns-clause-reads c =
    let P : List (List ℕ) → Type 0 = λ t. IfOk c.check_named_fields.result (λ _. (values : List AnyValue) × (read_row c.args.file c.args.row c.args.columns.now t ≡ Ok values)) in
    let reads = rw c.deref.ensures.value at c.check_named_fields.ensures.reads in
    subst P (sym (picked-plain c.args.layout.now c.args.text.now c.args.start c.args.count c.args.ends.now c.if-count-layout.false c.requires.width)) reads

pub returns-clause-stop : goal.returns-clause-stop
returns-clause-stop c =
    let P : List (List ℕ) → Type 0 = λ t. IfErr c.check_named_fields.result (λ e. StopsBy e (read_row c.args.file c.args.row c.args.columns.now t)) in
    let stop = rw c.deref.ensures.value at c.check_named_fields.ensures.stop in
    subst P (sym (picked-plain c.args.layout.now c.args.text.now c.args.start c.args.count c.args.ends.now c.if-count-layout.false c.requires.width)) stop
