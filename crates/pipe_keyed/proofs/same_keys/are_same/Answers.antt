use Rattle.std.proofs.Common.{◌≡◌, length, arith}
use Rattle.pipe_keyed.proofs.SameKeys.{last-decide}
use Rattle.pipe_keyed.proofs.same_keys.are_same.Goals as goal

pub returns-then-eight_from : goal.returns-then-eight_from
returns-then-eight_from c =
    let a = c.args.key.now in
    let b = c.args.other.now in
    let long : length a ≡ length b = omega arith in
    last-decide a b c.eight_from.result c.eight_from-2.result c.eight_from-then-eight_from.result c.eight_from-then-eight_from-2.result long (omega arith) (omega arith)
    (record { number = c.eight_from.ensures.number; bytes = c.eight_from.ensures.bytes })
    (record { number = c.eight_from-2.ensures.number; bytes = c.eight_from-2.ensures.bytes })
    (record { number = c.eight_from-then-eight_from.ensures.number; bytes = c.eight_from-then-eight_from.ensures.bytes })
    (record { number = c.eight_from-then-eight_from-2.ensures.number; bytes = c.eight_from-then-eight_from-2.ensures.bytes })
    c.if-eight_from.true
