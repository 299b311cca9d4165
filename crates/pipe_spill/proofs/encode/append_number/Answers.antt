-- A number of 128 bits has the bytes of what it is counted as.
use Rattle.std.proofs.Common.{◌≡◌, ◌^◌, pos, ◌+ℤ◌, ap, arith}
use Rattle.std.proofs.lemmas.Grind.{common_steps}
use Rattle.std.proofs.lemmas.Int.{ints}
use Rattle.std.specs.Int.{bytes_high_first}
use Rattle.pipe_columns.specs.Key.{number_code, unsigned_code}
use Rattle.pipe_spill.proofs.encode.append_number.Goals as goal

pub returns-in-Int128-clause-ok : goal.returns-in-Int128-clause-ok
returns-in-Int128-clause-ok c =
    let counted : c.args.number +ℤ pos (2 ^ 127) ≡ pos c.from_the_least.result = omega (arith, ints) in
    let bytes : number_code c.args.dtype c.args.number ≡ bytes_high_first 16 c.from_the_least.result =
    rw c.in-Int128.is (ap (unsigned_code 16) counted) in
    grind (arith, common_steps)
