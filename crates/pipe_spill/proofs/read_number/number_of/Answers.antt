-- What is counted from the least number is the number's distance from it.
use Rattle.std.proofs.Common.{◌≡◌, ◌^◌, pos, negsuc, ◌+ℤ◌, ap, arith, of_z, to_z}
use Rattle.std.proofs.lemmas.Int.{ints}
use Rattle.std.specs.Int.{w128}
use Rattle.pipe_columns.specs.Key.{unsigned_code}
use Rattle.pipe_spill.proofs.read_number.number_of.Goals as goal

pub returns-in-Int128-clause-code : goal.returns-in-Int128-clause-code
returns-in-Int128-clause-code c =
    let z = to_z w128 (of_z w128 (to_z w128 c.args.counted +ℤ negsuc 170141183460469231731687303715884105727)) in
    let e : z +ℤ pos (2 ^ 127) ≡ pos c.args.counted = omega (arith, ints) in
    rw c.in-Int128.is (ap (unsigned_code 16) e)
