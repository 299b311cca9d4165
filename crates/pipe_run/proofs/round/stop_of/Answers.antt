use Rattle.std.proofs.Common.{◌≡◌, ◌<◌, ℕ, false, length, subst, sym, true, slice_index_or}
use Rattle.pipe_run.proofs.round.stop_of.Goals as goal

pub returns-in-Some-clause-there : goal.returns-in-Some-clause-there
returns-in-Some-clause-there g c = λ p same.
    let e : c.in-Some.partition ≡ p = cc in
    subst (λ k. k < length c.args.closed.now) e c.in-Some.ensures.some.0

pub returns-in-Some-clause-failed : goal.returns-in-Some-clause-failed
returns-in-Some-clause-failed g c = λ p d same.
    let e : c.in-Some.partition ≡ p = cc in
    subst (λ k. (slice_index_or c.args.closed.now k d).failed ≡ true) e (c.in-Some.ensures.some.1 d)

pub returns-in-Some-clause-least : goal.returns-in-Some-clause-least
returns-in-Some-clause-least g c = λ p k d same less.
    let e : c.in-Some.partition ≡ p = cc in
    c.in-Some.ensures.least k d (subst (λ n. k < n) (sym e) less)
