use Rattle.std.proofs.Common.{sym, arith}
use Rattle.lavzimo_rows.proofs.MeanFacts.{rounded_known}
use Rattle.lavzimo_rows.proofs.mean.divide.Goals as goal

pub returns-then-not-rounds_up-clause-nearest : goal.returns-then-not-rounds_up-clause-nearest
returns-then-not-rounds_up-clause-nearest c =
    let known = rounded_known c.args.number c.args.divisor _ _ _ c.from-wide.ensures c.from-divisor.ensures c.requires.some c.rounds_up.ensures in
    sym (rw c.if-not-rounds_up.true at known)

pub returns-then-quotient-eq999999-clause-nearest :
    goal.returns-then-quotient-eq999999-clause-nearest
returns-then-quotient-eq999999-clause-nearest c =
    let known = rounded_known c.args.number c.args.divisor _ _ _ c.from-wide.ensures c.from-divisor.ensures c.requires.some c.rounds_up.ensures in
    let up = rw c.if-not-rounds_up.false at known in
    omega (arith, up, c.if-quotient-eq999999.true)

pub returns-else-quotient-eq999999-clause-nearest :
    goal.returns-else-quotient-eq999999-clause-nearest
returns-else-quotient-eq999999-clause-nearest c =
    let known = rounded_known c.args.number c.args.divisor _ _ _ c.from-wide.ensures c.from-divisor.ensures c.requires.some c.rounds_up.ensures in
    sym (rw c.if-not-rounds_up.false at known)
