-- Too few bytes, or fewer than the key's length says, begin with no row.
use Rattle.std.proofs.Common.{rules, ◌<◌, ◌^◌, List, ℕ, length}
use Rattle.pipe_waiting.proofs.Giving.{too_long}
use Rattle.pipe_waiting.proofs.row_head.take_key.Goals as goal

pub returns-then-size-rest-clause-none : goal.returns-then-size-rest-clause-none
returns-then-size-rest-clause-none c = λ h.
    let tail : List ℕ = c.in_ok-place.rest.now in
    let room : length tail < 2 ^ 64 = search rules in
    too_long c.in_ok-place.place.chunk c.in_ok-place.place.row c.in_ok-place.size tail c.args.bytes.now c.in_ok-place.ensures.size room c.in_ok-place.ensures.some c.if-size-rest.true
