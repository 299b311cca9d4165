use Rattle.std.proofs.Common.{nat_le, arith}
use lib.Lanes.{chunk}
use mir.Syntax.{w8}
use Rattle.std.proofs.lemmas.Simd.{bitmask_splat, length-chunk}
use Rattle.pipe_scan.proofs.stops.stops_at.Goals as goal

pub returns : goal.returns
returns c = bitmask_splat w8 nat_le (chunk c.args.at 64 c.args.text.now) 64 44 (length-chunk c.args.at 64 c.args.text.now c.requires) (omega arith)
