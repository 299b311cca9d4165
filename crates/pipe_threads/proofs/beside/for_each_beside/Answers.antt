use Rattle.std.proofs.Common.{◌+◌, ℕ, get_or, arith, refl, subst}
use Rattle.std.specs.Fork.{ChangesAt}
use Rattle.pipe_threads.proofs.beside.for_each_beside.Goals as goal

pub returns : goal.returns
returns g c i d l =
    (refl, subst (λ (k : ℕ). ChangesAt g.F.Fn c.args.f.now k (get_or c.args.s.now i d) (get_or c.each_from.new.s i d)) {x = 0 + i} {y = i} (omega arith) (c.each_from.ensures.1 i d l))
