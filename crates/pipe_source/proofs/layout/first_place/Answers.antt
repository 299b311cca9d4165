use Rattle.std.proofs.Common.{◌≡◌, ◌∙◌, ◌<◌, List, ℕ, length, arith, ap, sym, rules, Bool, true, false}
use Rattle.std.specs.Str.{bytes_eq}
use Rattle.csv.specs.Records.{fields_of}
use Rattle.pipe_csv.proofs.RowFacts.{get-reads, get-some}
use Rattle.pipe_source.specs.Layout.{first_place}
use Rattle.pipe_source.proofs.FieldsLeft.{text-here}
use Rattle.pipe_source.proofs.LayoutFacts.{first-here, first-later}
use Rattle.pipe_source.proofs.layout.first_place.Goals as goal

pub unwrap-requires : goal.unwrap-requires
unwrap-requires c =
    let ts : List (List ℕ) = fields_of c.args.names.now in
    let within : c.loop-i.i < length ts = omega (arith, c.len-i-end.ensures, c.loop-i-test.true) in
    get-some ts c.loop-i.i c.get.result within c.get.ensures.value

pub returns-then-eq-clause-place : goal.returns-then-eq-clause-place
returns-then-eq-clause-place c =
    let ts : List (List ℕ) = fields_of c.args.names.now in
    let i : ℕ = c.loop-i.i in
    let within : i < length ts = omega (arith, c.len-i-end.ensures, c.loop-i-test.true) in
    let reads = get-reads ts i c.get.result c.unwrap.result within c.get.ensures.value c.unwrap.ensures in
    let is : bytes_eq c.args.name.now c.unwrap.result.now ≡ true = search rules in
    sym (c.loop-i.invariant ∙ ap (first_place c.args.name.now i) (text-here ts i c.unwrap.result.now within reads) ∙ first-here c.args.name.now c.unwrap.result.now i _ is)

pub loop-i-preserved : goal.loop-i-preserved
loop-i-preserved c =
    let ts : List (List ℕ) = fields_of c.args.names.now in
    let i : ℕ = c.loop-i.i in
    let within : i < length ts = omega (arith, c.len-i-end.ensures, c.loop-i-test.true) in
    let reads = get-reads ts i c.get.result c.unwrap.result within c.get.ensures.value c.unwrap.ensures in
    let is : bytes_eq c.args.name.now c.unwrap.result.now ≡ false = search rules in
    c.loop-i.invariant ∙ ap (first_place c.args.name.now i) (text-here ts i c.unwrap.result.now within reads) ∙ first-later c.args.name.now c.unwrap.result.now i _ is
