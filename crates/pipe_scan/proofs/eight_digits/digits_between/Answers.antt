use Rattle.std.proofs.Common.{length, ◌≡◌, ◌∙◌, ◌-◌, ◌<◌, ◌≤◌, ◌+◌, ℕ, List, Some, arith, sym, ap, subst}
use lib.Lanes.{chunk}
use mir.Syntax.{w8}
use Rattle.std.proofs.lemmas.Simd.{chunk-fits, length-chunk}
use Rattle.pipe_scan.specs.Eight.{IsEight}
use Rattle.pipe_scan.specs.Numbers.{read_digits, read_few_digits}
use Rattle.pipe_scan.specs.Records.{between}
use Rattle.pipe_scan.proofs.EightFacts.{if_some, last_of_eight, number_used, used_few}
use Rattle.pipe_scan.proofs.NumberFacts.{digits-few}
use Rattle.pipe_scan.proofs.ScanFacts.{length-between}
use Rattle.pipe_scan.proofs.eight_digits.digits_between.Goals as goal

pub returns : goal.returns
returns c =
    let text : List ℕ = c.args.text.now in
    let low : ℕ = c.args.low in
    let high : ℕ = c.args.high in
    let m : 8 ≤ high = c.if-high-lt8.false in
    let used = used_few high low c.ranges.low.fits c.ranges.high.fits m c.if-used-gt7.false in
    let l : low < high = used.0 in
    let k : high - low ≤ 8 = used.1 in
    let w : high - 8 + 8 ≤ length text = omega (arith, m, c.requires) in
    let few : length (between text low high) ≤ 18 = rw (length-between text low high (omega (arith, l)) c.requires) (omega (arith, k)) in
    if_some c.number_of_eight.result (λ n. IsEight c.digits_at.result n) (λ n. read_few_digits (between text low high) ≡ Some n) (λ n v.
    digits-few (between text low high) n few (ap read_digits (sym (last_of_eight text low high l c.requires m k))
    ∙ number_used (8 - (high - low)) n (chunk (high - 8) 8 text) (length-chunk (high - 8) 8 text w) (omega (arith, l, k)) (chunk-fits w8 (high - 8) 8 text c.type_inv.text)
    (subst (λ (ds : List ℕ). IsEight ds n) (rw used.2 at c.digits_at.ensures) v))) c.number_of_eight.ensures
