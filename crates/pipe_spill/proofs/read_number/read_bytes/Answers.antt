-- One more byte puts the bytes so far in a higher place, and there is room for 16.
use Rattle.std.proofs.Common.{◌<◌, get_or, arith, rules}
use Rattle.pipe_spill.proofs.ByteOrder.{read_below, read_bytes, room}
use Rattle.pipe_spill.proofs.read_number.read_bytes.Goals as goal

pub overflow_mul-number : goal.overflow_mul-number
overflow_mul-number c =
    omega (arith, room c.loop-byte.byte-index c.loop-byte.number c.loop-byte.invariant.range (omega arith))

pub overflow_add-number : goal.overflow_add-number
overflow_add-number c =
    let b : get_or c.split_at.result.0.now c.loop-byte.byte-index 0 < 256 = search rules in
    omega (arith, room c.loop-byte.byte-index c.loop-byte.number c.loop-byte.invariant.range (omega arith))

pub loop-byte-preserved : goal.loop-byte-preserved
loop-byte-preserved c =
    let b : get_or c.split_at.result.0.now c.loop-byte.byte-index 0 < 256 = search rules in
    record {
      range = read_below c.split_at.result.0.now c.loop-byte.number c.loop-byte.byte-index c.loop-byte.invariant.range b;
      bytes = read_bytes c.split_at.result.0.now c.loop-byte.number c.loop-byte.byte-index c.loop-byte.invariant.bytes c.loop-byte-test.true b;
    }
