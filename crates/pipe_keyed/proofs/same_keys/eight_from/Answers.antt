use Rattle.std.proofs.Common.{◌≡◌, take, drop, rules}
use Rattle.std.specs.Int.{from_le_bytes, w64}
use Rattle.pipe_keyed.proofs.SameKeys.{number-bytes}
use Rattle.pipe_keyed.proofs.same_keys.eight_from.Goals as goal

pub returns-clause-bytes : goal.returns-clause-bytes
returns-clause-bytes c =
    let is : c.from_le_bytes.result ≡ from_le_bytes w64 (take 8 (drop c.args.at c.args.bytes.now)) = search rules in
    number-bytes c.args.bytes.now c.args.at c.from_le_bytes.result (λ i. (c.type_inv.bytes i).fits) c.requires is
