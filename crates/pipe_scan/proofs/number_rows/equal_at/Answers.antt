use Rattle.std.proofs.Common.{nat_eq, arith}
use lib.Lanes.{chunk}
use mir.Syntax.{w8}
use Rattle.std.proofs.lemmas.Simd.{bitmask_splat, length-chunk}
use Rattle.pipe_scan.proofs.number_rows.equal_at.Goals as goal

pub returns : goal.returns
returns c = bitmask_splat w8 nat_eq (chunk c.args.at 64 c.args.text.now) 64 c.args.byte (length-chunk c.args.at 64 c.args.text.now c.requires) (omega arith)
